use Rattle.lw_faults.specs.Finding.{Finds, AtSomeBelow}
use Rattle.lw_types.specs.Seconds.{TellsSecondInterface}
use Rattle.lw_types.proofs.naming.names.KnownNames.find_second_interfaces.Given as goal

abbrev pub invariant-loop-i : goal.invariant-loop-i
invariant-loop-i l = Finds (AtSomeBelow (TellsSecondInterface l.self.g.now) l.i l.self.g.now.interfaces) l.fn.found l.found
