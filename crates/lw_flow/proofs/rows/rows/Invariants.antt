use Rattle.std.proofs.Common.{map}
use Rattle.lw_flow.specs.Rows.{InTable}
use Rattle.lw_flow.specs.Whole.{AreRowsOf, items_of}
use Rattle.lw_flow.proofs.rows.rows.Given as goal

abbrev pub invariant-loop-number : goal.invariant-loop-number
invariant-loop-number l = AreRowsOf l.source.grammar.now (InTable l.table) l.marks l.number (map items_of l.rows.items)
