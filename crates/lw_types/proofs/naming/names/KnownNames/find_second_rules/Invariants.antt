use Rattle.lw_faults.specs.Finding.{Finds, AtSomeBelow}
use Rattle.lw_types.specs.Seconds.{TellsSecondRule}
use Rattle.lw_types.proofs.naming.names.KnownNames.find_second_rules.Given as goal

abbrev pub invariant-loop-i : goal.invariant-loop-i
invariant-loop-i l = Finds (AtSomeBelow (TellsSecondRule l.self.g.now) l.i l.self.g.now.rules) l.fn.found l.found
