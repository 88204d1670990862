use Rattle.std.proofs.Common.{◌≡◌, length}
use Rattle.lw_flow.specs.Rows.{AreEmptyRows}
use Rattle.lw_flow.proofs.tables.empty_rows.Given as goal

abbrev pub invariant-loop-row : goal.invariant-loop-row
invariant-loop-row g l = record {
  count : length l.table.items ≡ l._row;
  none : AreEmptyRows l.table.items;
}
