use Rattle.lw_types.specs.Sets.{AreEmptySets}
use Rattle.lw_types.proofs.sets.empty_sets.Given as goal

abbrev pub invariant-loop-set : goal.invariant-loop-set
invariant-loop-set l = AreEmptySets l._set l.sets.items
