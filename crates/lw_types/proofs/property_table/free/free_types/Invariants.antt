use Rattle.lw_types.proofs.TypeFlags.{FreeBefore}
use Rattle.lw_types.proofs.property_table.free.free_types.Given as goal

abbrev pub invariant-loop-number : goal.invariant-loop-number
invariant-loop-number l = FreeBefore l.g l.number l.free.items
