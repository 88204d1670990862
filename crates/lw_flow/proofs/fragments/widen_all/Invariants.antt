use Rattle.std.proofs.Common.{◌≡◌, length}
use Rattle.lw_flow.specs.Fixed.{WidensBelow}
use Rattle.lw_flow.specs.Rows.{InTable, TakesRoom}
use Rattle.lw_flow.specs.Rows as rows
use Rattle.lw_flow.proofs.fragments.widen_all.Given as goal

abbrev pub invariant-loop-number : goal.invariant-loop-number
invariant-loop-number l = record {
  same_length : length l.table.items ≡ length l.initial.table.items;
  widens : WidensBelow l.source.grammar.now l.number l.grown (InTable l.initial.table.items) (InTable l.table.items);
  room : TakesRoom l.grown (rows.room l.initial.table.items) (rows.room l.table.items);
}
