use Rattle.lw_numbers.specs.Above.{IsRow}
use Rattle.lw_numbers.proofs.subtypes.subtypes.row.Given as goal

abbrev pub invariant-loop-number : goal.invariant-loop-number
invariant-loop-number l = IsRow l.graph l.number l.from l.row.items
