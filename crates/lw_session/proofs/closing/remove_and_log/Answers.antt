use Rattle.std.proofs.Common.{◌++◌, List, ap, inr, ◌∙◌}
use Rattle.lw_rpc.specs.declared.reply.Reply.{Reply}
use Rattle.lw_session.proofs.Handling.{error_there}
use Rattle.lw_session.proofs.Moved.{moves_on}
use Rattle.lw_session.proofs.closing.remove_and_log.Goals as goal

pub returns-in_err-append-clause-lost : goal.returns-in_err-append-clause-lost
returns-in_err-append-clause-lost c =
    error_there c.from_residual-in_err-append.result _
    (inr
    (moves_on {v = c.args.workspace.now} {w = c.remove_document.new.workspace} (λ m n agrees removes. (c.in_ok-replies.replies, removes))
    c.in_ok-replies.ensures.removed))

pub returns-clause-removed : goal.returns-clause-removed
returns-clause-removed c =
    let first = c.in_ok-replies.replies in
    moves_on {v = c.args.workspace.now} {w = c.remove_document.new.workspace}
    (λ m n agrees removes. (first, removes, c.in_ok-append.ensures ∙ ap (λ (lines : List Reply). first ++ lines) c.in_ok-lines.ensures)) c.in_ok-replies.ensures.removed
