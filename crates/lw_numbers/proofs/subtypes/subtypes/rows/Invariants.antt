use Rattle.lw_numbers.specs.Above.{AreRows}
use Rattle.lw_numbers.proofs.subtypes.subtypes.rows.Given as goal

abbrev pub invariant-loop-number : goal.invariant-loop-number
invariant-loop-number l = AreRows l.graph l.count l.number l.rows.items
