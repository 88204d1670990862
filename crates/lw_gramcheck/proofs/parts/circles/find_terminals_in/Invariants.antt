use Rattle.lw_faults.specs.Finding.{Finds, AtSomeBelow}
use Rattle.lw_gramcheck.specs.Edges.{TerminalIn}
use Rattle.lw_gramcheck.proofs.parts.circles.find_terminals_in.Given as goal

abbrev pub invariant-loop-t : goal.invariant-loop-t
invariant-loop-t l = Finds (AtSomeBelow (TerminalIn l.fn.round) l.t l.fn.terminals) l.fn.found l.found
