use Rattle.std.proofs.Common.{◌≡◌, ◌≤◌, length}
use Rattle.lw_flow.specs.Fixed.{IsSound}
use Rattle.lw_flow.specs.Rows.{InTable}
use Rattle.lw_flow.specs.Rows as rows
use Rattle.lw_flow.proofs.fragments.widen_back.Given as goal

abbrev pub invariant-loop-number : goal.invariant-loop-number
invariant-loop-number l = record {
  same_length : length l.table.items ≡ length l.initial.table.items;
  sound : IsSound l.source.grammar.now (InTable l.initial.table.items) → IsSound l.source.grammar.now (InTable l.table.items);
  room : rows.room l.table.items ≤ rows.room l.initial.table.items;
}
