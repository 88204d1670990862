use Rattle.lw_types.proofs.Adding.{AreEmpty}
use Rattle.lw_types.proofs.property_table.seeing.gatherings.Given as goal

abbrev pub invariant-loop-number : goal.invariant-loop-number
invariant-loop-number l = AreEmpty l._number l.list.items
