use Rattle.std.proofs.Common.{OnErr, sym, subst}
use Rattle.lw_build.specs.View.{WorkspaceView}
use Rattle.lw_conversation.specs.Answered.{IsCutShort}
use Rattle.lw_session.specs.Answering.{standing_of}
use Rattle.lw_conversation.proofs.Ordered.{answers_in_order}
use Rattle.lw_session.proofs.Handling.{error_between, error_there, served}
use Rattle.lw_session.proofs.serving.serve.Goals as goal

pub returns-in_err-told-clause-cut_short : goal.returns-in_err-told-clause-cut_short
returns-in_err-told-clause-cut_short g c = error_there c.from_residual.result _ c.in_err-told.ensures.cut_short

pub returns-clause-ordered : goal.returns-clause-ordered
returns-clause-ordered g c =
    let v = c.args.workspace.now in
    let told = c.in_ok-told.told in
    let by = c.in_ok-told.ensures.answered in
    let is = by.answered in
    answers_in_order v.setting (standing_of v c.args.phase) c.args.message by.asked (record { documents = is.changed; phase = told.phase }) told.replies told.ended is.answered

pub returns-in_err-lists-clause-cut_short : goal.returns-in_err-lists-clause-cut_short
returns-in_err-lists-clause-cut_short g c =
    let v = c.args.workspace.now in
    let s = standing_of v c.args.phase in
    let result = c.from_residual-in_err-lists.result in
    subst (λ (w : WorkspaceView). OnErr result (IsCutShort v.setting s c.args.message (standing_of w c.args.phase))) (sym c.in_err-lists.ensures.refused)
    (error_between v c.answer.new.workspace c.args.phase c.args.message c.in_ok-told.ensures.answered.asked c.in_ok-told.told c.in_ok-told.ensures.answered.answered
    c.in_ok-told.ensures.setting result c.agrees.ensures.agrees)

pub returns-clause-served : goal.returns-clause-served
returns-clause-served g c =
    let by = c.in_ok-told.ensures.answered in
    let is = by.answered in
    record {
      asked = by.asked;
      handles = served c.args.workspace.now c.answer.new.workspace c.args.phase c.args.message by.asked c.in_ok-told.told is c.in_ok-told.ensures.setting
          c.build.new.workspace c.in_ok-lists.lists (c.in_ok-lists.ensures.built is.changed is.agrees);
      by_store = by.by_store;
      counted = by.counted;
    }
