use Rattle.std.proofs.Common.{[], ◌∷◌, ◌++◌, List, map, sym, ap, ◌∙◌, subst}
use Rattle.std.proofs.lemmas.Result.{IfOk-weaker}
use Rattle.lw_build.specs.View.{documents}
use Rattle.lw_conversation.specs.Asking.{RepliesTo}
use Rattle.lw_conversation.specs.Publishing.{as_reply}
use Rattle.lw_machine.specs.declared.published.Published.{Published}
use Rattle.lw_session.specs.Answering.{IsAnswered}
use Rattle.lw_session.specs.Lifecycle.{asked_message, telling}
use Rattle.lw_session.proofs.Answers.{answers}
use Rattle.lw_session.proofs.Handling.{cut_by_build, error_there, error_unchanged}
use Rattle.lw_session.proofs.asking.ask.Goals as goal

pub returns-in_err-lists-clause-cut_short : goal.returns-in_err-lists-clause-cut_short
returns-in_err-lists-clause-cut_short g c =
    error_unchanged c.from_residual.result c.args.workspace.now c.advance.new.self c.args.phase (asked_message c.args.asked)
    (error_there c.from_residual.result _ c.in_err-lists.ensures.refused)

pub returns-in_err-reply-clause-cut_short : goal.returns-in_err-reply-clause-cut_short
returns-in_err-reply-clause-cut_short g c =
    error_there c.from_residual-in_err-reply.result _
    (cut_by_build c.args.workspace.now c.advance.new.self c.args.phase (asked_message c.args.asked) c.in_ok-lists.lists
    (c.in_ok-lists.ensures.builds (documents c.args.workspace.now) c.agrees.ensures.agrees) c.agrees-2.ensures.agrees c.in_ok-lists.ensures.setting)

pub returns-clause-answered : goal.returns-clause-answered
returns-clause-answered g c =
    let v = c.args.workspace.now in
    let w = c.advance.new.self in
    let asked = c.args.asked in
    let reply = c.in_ok-reply.reply in
    let replies = subst (λ of. RepliesTo of (documents w) (asked_message asked) reply) c.in_ok-lists.ensures.setting c.in_ok-reply.ensures in
    IfOk-weaker c.tells_behind.result _ _
    (λ told is.
    subst (IsAnswered v w c.args.phase (asked_message asked) [])
    (ap (λ (lists : List Published). telling c.args.phase (map as_reply lists ++ reply ∷ [])) (sym c.as_slice.ensures) ∙ sym is)
    (answers v w c.args.phase c.requires c.agrees.ensures.agrees asked c.in_ok-lists.lists reply c.agrees-2.ensures.agrees
    (c.in_ok-lists.ensures.builds (documents v) c.agrees.ensures.agrees) replies))
    c.tells_behind.ensures

pub returns-clause-cut_short : goal.returns-clause-cut_short
returns-clause-cut_short g c =
    error_there c.tells_behind.result _
    (cut_by_build c.args.workspace.now c.advance.new.self c.args.phase (asked_message c.args.asked) c.in_ok-lists.lists
    (c.in_ok-lists.ensures.builds (documents c.args.workspace.now) c.agrees.ensures.agrees) c.agrees-2.ensures.agrees c.in_ok-lists.ensures.setting)
