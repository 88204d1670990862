use Rattle.std.proofs.Common.{refl}
use Rattle.lw_conversation.specs.Effects as effect
use Rattle.lw_conversation.specs.Watching.{SeesChanges}
use Rattle.lw_rpc.specs.declared.message.Message.TheVariants.{DidChangeWatchedFiles}
use Rattle.lw_session.proofs.Answers.{by_reads, watches}
use Rattle.lw_session.proofs.Handling.{cut_between, error_there}
use Rattle.lw_session.proofs.watching.watch.Goals as goal

pub returns-in_err-replies-clause-cut_short : goal.returns-in_err-replies-clause-cut_short
returns-in_err-replies-clause-cut_short g c =
    let v = c.args.workspace.now in
    let changes = c.args.changes.now in
    error_there c.from_residual.result _
    (cut_between v c.see_all-replies.new.workspace c.args.phase (DidChangeWatchedFiles changes) (watches c.args.phase c.requires changes) c.agrees.ensures.agrees
    c.agrees-2.ensures.agrees c.in_err-replies.ensures.setting changes refl c.in_err-replies.ensures.in_part)

pub returns-clause-answered : goal.returns-clause-answered
returns-clause-answered g c =
    let v = c.args.workspace.now in
    let changes = c.args.changes.now in
    by_reads (g.F.Store.files c.args.store.now) (g.F.Store.count c.args.store.now) (g.F.Store.count c.see_all-replies.new.store) v c.see_all-replies.new.workspace
    c.args.phase c.requires (DidChangeWatchedFiles changes) (watches c.args.phase c.requires changes) (λ m. SeesChanges v.setting m changes)
    (λ asked n replies does. effect.sees does) c.agrees.ensures.agrees c.in_ok-replies.field-0 c.in_ok-replies.ensures.sees
