use Rattle.lw_faults.specs.Finding.{Finds, AtSomeBelow}
use Rattle.lw_types.specs.Seconds.{TellsSecondUnion}
use Rattle.lw_types.proofs.naming.names.KnownNames.find_second_unions.Given as goal

abbrev pub invariant-loop-i : goal.invariant-loop-i
invariant-loop-i l = Finds (AtSomeBelow (TellsSecondUnion l.self.g.now) l.i l.self.g.now.unions) l.fn.found l.found
