use Rattle.std.proofs.Common.{◌∙◌, inl, inr}
use Rattle.lw_flow.specs.Rows.{InTable, room}
use Rattle.lw_flow.proofs.ArrivalLemmas.{passed_step}
use Rattle.lw_flow.proofs.TableLemmas.{room_step}
use Rattle.lw_flow.proofs.arrivals.spread_all.Goals as goal
use Rattle.lw_flow.proofs.arrivals.spread_all.Goals.{then-branch, else-branch}

pub loop-number-preserved : goal.loop-number-preserved
loop-number-preserved c = record {
  same_length = c.in_ok-spread.ensures.length ∙ c.loop-number.invariant.same_length;
  spreads =
      passed_step c.args.source.now.grammar.now (InTable c.args.table.now) c.loop-number.number c.loop-number.grown c.in_ok-spread.field-0 c.if-branch.grown
      (InTable c.args.marks.now.items) (InTable c.loop-number.marks.items) (InTable c.spread.new.marks.items) c.loop-number.invariant.spreads
      c.in_ok-spread.ensures.spreads (elim c.if-branch.branch [
        | then-branch w ↦ inl (w.if-branch.true, w.grown-is)
        | else-branch w ↦ inr (w.if-branch.false, w.grown-is)
      ]);
  room =
      room_step c.loop-number.grown c.in_ok-spread.field-0 c.if-branch.grown (room c.args.marks.now.items) (room c.loop-number.marks.items)
      (room c.spread.new.marks.items) c.loop-number.invariant.room c.in_ok-spread.ensures.room (elim c.if-branch.branch [
        | then-branch w ↦ inl (w.if-branch.true, w.grown-is)
        | else-branch w ↦ inr (w.if-branch.false, w.grown-is)
      ]);
}
