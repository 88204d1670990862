use Rattle.std.proofs.Common.{◌∙◌, inl, inr}
use Rattle.lw_flow.specs.Rows.{InTable, room}
use Rattle.lw_flow.proofs.FixedLemmas.{below_step}
use Rattle.lw_flow.proofs.TableLemmas.{room_step}
use Rattle.lw_flow.proofs.fragments.widen_all.Goals as goal
use Rattle.lw_flow.proofs.fragments.widen_all.Goals.{then-branch, else-branch}

pub loop-number-preserved : goal.loop-number-preserved
loop-number-preserved c = record {
  same_length = c.in_ok-widen.ensures.length ∙ c.loop-number.invariant.same_length;
  widens =
      below_step c.args.source.now.grammar.now c.loop-number.number c.loop-number.grown c.in_ok-widen.field-0 c.if-branch.grown (InTable c.args.table.now.items)
      (InTable c.loop-number.table.items) (InTable c.widen.new.table.items) c.loop-number.invariant.widens c.in_ok-widen.ensures.widens (elim c.if-branch.branch [
        | then-branch w ↦ inl (w.if-branch.true, w.grown-is)
        | else-branch w ↦ inr (w.if-branch.false, w.grown-is)
      ]);
  room =
      room_step c.loop-number.grown c.in_ok-widen.field-0 c.if-branch.grown (room c.args.table.now.items) (room c.loop-number.table.items)
      (room c.widen.new.table.items) c.loop-number.invariant.room c.in_ok-widen.ensures.room (elim c.if-branch.branch [
        | then-branch w ↦ inl (w.if-branch.true, w.grown-is)
        | else-branch w ↦ inr (w.if-branch.false, w.grown-is)
      ]);
}
