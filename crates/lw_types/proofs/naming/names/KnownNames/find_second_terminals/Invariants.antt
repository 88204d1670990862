use Rattle.lw_faults.specs.Finding.{Finds, AtSomeBelow}
use Rattle.lw_types.specs.Seconds.{TellsSecondTerminal}
use Rattle.lw_types.proofs.naming.names.KnownNames.find_second_terminals.Given as goal

abbrev pub invariant-loop-i : goal.invariant-loop-i
invariant-loop-i l = Finds (AtSomeBelow (TellsSecondTerminal l.self.g.now) l.i l.self.g.now.terminals) l.fn.found l.found
