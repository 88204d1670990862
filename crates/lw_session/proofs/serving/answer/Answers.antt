use Rattle.std.proofs.Common.{subst}
use Rattle.lw_session.specs.Answering.{standing_of}
use Rattle.lw_session.specs.Lifecycle.{IsStep}
use Rattle.lw_session.proofs.Answers.{stops, unasked}
use Rattle.lw_session.proofs.Handling.{error_not_begun, error_unchanged}
use Rattle.lw_session.proofs.serving.answer.Goals as goal

pub returns-in-Stops-clause-answered : goal.returns-in-Stops-clause-answered
returns-in-Stops-clause-answered g c =
    let v = c.args.workspace.now in
    unasked (g.F.Store.files c.args.store.now) (g.F.Store.count c.args.store.now) v v c.args.phase c.args.message c.in-Stops.told
    (stops v c.args.phase c.args.message c.in-Stops.told c.agrees.ensures.agrees (subst (IsStep c.args.phase c.args.message) c.in-Stops.is c.in_ok-told.ensures))

pub returns-in-Opens-clause-cut_short : goal.returns-in-Opens-clause-cut_short
returns-in-Opens-clause-cut_short g c =
    error_unchanged c.open.result c.args.workspace.now c.open.new.workspace c.args.phase c.args.message c.open.ensures.refused

pub returns-in-Edits-clause-cut_short : goal.returns-in-Edits-clause-cut_short
returns-in-Edits-clause-cut_short g c =
    error_unchanged c.edit.result c.args.workspace.now c.edit.new.workspace c.args.phase c.args.message c.edit.ensures.refused

pub returns-in_err-told-clause-cut_short : goal.returns-in_err-told-clause-cut_short
returns-in_err-told-clause-cut_short g c =
    error_not_begun c.from_residual.result c.args.workspace.now.setting (standing_of c.args.workspace.now c.args.phase) c.args.message
