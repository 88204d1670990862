use Rattle.std.proofs.Common.{◌∙◌, sym, arith, inl, inr}
use Rattle.lw_flow.specs.Rows.{InTable, room}
use Rattle.lw_flow.proofs.ArrivalLemmas.{spread_more, spread_end}
use Rattle.lw_flow.proofs.TableLemmas.{room_step}
use Rattle.lw_flow.proofs.arrivals.spread_visits.Goals as goal
use Rattle.lw_flow.proofs.arrivals.spread_visits.Goals.{then-branch, else-branch}

pub spread_visit-requires : goal.spread_visit-requires
spread_visit-requires c = λ f at.
    let inside = c.requires c.visit-item.result f (c.loop-visit.visit-index, c.loop-visit-test.true, sym c.visit-item.is) at in
    omega (arith, inside, c.loop-visit.invariant.same_length)

pub loop-visit-preserved : goal.loop-visit-preserved
loop-visit-preserved c = record {
  same_length = c.in_ok-spread_visit.ensures.length ∙ c.loop-visit.invariant.same_length;
  spreads =
      spread_more c.args.visits.now c.loop-visit.visit-index c.visit-item.result c.loop-visit-test.true c.visit-item.is c.loop-visit.grown c.in_ok-spread_visit.field-0
      c.if-branch.grown (InTable c.args.marks.now.items) (InTable c.loop-visit.marks.items) (InTable c.spread_visit.new.marks.items) c.loop-visit.invariant.spreads
      c.in_ok-spread_visit.ensures.spreads (elim c.if-branch.branch [
        | then-branch w ↦ inl (w.if-branch.true, w.grown-is)
        | else-branch w ↦ inr (w.if-branch.false, w.grown-is)
      ]);
  room =
      room_step c.loop-visit.grown c.in_ok-spread_visit.field-0 c.if-branch.grown (room c.args.marks.now.items) (room c.loop-visit.marks.items)
      (room c.spread_visit.new.marks.items) c.loop-visit.invariant.room c.in_ok-spread_visit.ensures.room (elim c.if-branch.branch [
        | then-branch w ↦ inl (w.if-branch.true, w.grown-is)
        | else-branch w ↦ inr (w.if-branch.false, w.grown-is)
      ]);
}

pub returns-clause-spreads : goal.returns-clause-spreads
returns-clause-spreads c =
    spread_end c.args.visits.now c.loop-visit.visit-index c.loop-visit.grown (InTable c.args.marks.now.items) (InTable c.loop-visit.marks.items)
    c.loop-visit-test.false c.loop-visit.invariant.spreads
