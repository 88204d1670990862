use Rattle.std.proofs.Common.{◌≡◌, length, take}
use Rattle.lw_flow.specs.Arrivals.{Spread}
use Rattle.lw_flow.specs.Rows.{InTable, TakesRoom}
use Rattle.lw_flow.specs.Rows as rows
use Rattle.lw_flow.proofs.arrivals.spread_visits.Given as goal

abbrev pub invariant-loop-visit : goal.invariant-loop-visit
invariant-loop-visit l = record {
  same_length : length l.marks.items ≡ length l.initial.marks.items;
  spreads : Spread (take l.visit-index l.visits) l.grown (InTable l.initial.marks.items) (InTable l.marks.items);
  room : TakesRoom l.grown (rows.room l.initial.marks.items) (rows.room l.marks.items);
}
