use Rattle.std.proofs.Common.{◌≡◌, length}
use Rattle.lw_flow.specs.Arrivals.{SpreadsBelow}
use Rattle.lw_flow.specs.Rows.{InTable, TakesRoom}
use Rattle.lw_flow.specs.Rows as rows
use Rattle.lw_flow.proofs.arrivals.spread_all.Given as goal

abbrev pub invariant-loop-number : goal.invariant-loop-number
invariant-loop-number l = record {
  same_length : length l.marks.items ≡ length l.initial.marks.items;
  spreads : SpreadsBelow l.source.grammar.now (InTable l.table) l.number l.grown (InTable l.initial.marks.items) (InTable l.marks.items);
  room : TakesRoom l.grown (rows.room l.initial.marks.items) (rows.room l.marks.items);
}
