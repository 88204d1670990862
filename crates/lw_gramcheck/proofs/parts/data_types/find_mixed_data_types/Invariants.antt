use Rattle.lw_faults.specs.Finding.{Finds, AtSomeBelow}
use Rattle.lw_gramcheck.specs.Parts.{MixedHere}
use Rattle.lw_gramcheck.proofs.parts.data_types.find_mixed_data_types.Given as goal

abbrev pub invariant-loop-r : goal.invariant-loop-r
invariant-loop-r l = Finds (AtSomeBelow (MixedHere l.fn.checker.g.now) l.r l.fn.checker.g.now.rules) l.fn.found l.found
