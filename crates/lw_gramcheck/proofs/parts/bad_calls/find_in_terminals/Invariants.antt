use Rattle.std.proofs.Common.{take}
use Rattle.lw_faults.specs.Finding.{Finds, OfSome}
use Rattle.lw_gramcheck.specs.BadSites.{HasBadPart}
use Rattle.lw_gramcheck.proofs.parts.bad_calls.find_in_terminals.Given as goal

abbrev pub invariant-loop-terminal : goal.invariant-loop-terminal
invariant-loop-terminal l = Finds (OfSome (HasBadPart l.fn.checker.g.now) (take l.terminal-index l.terminal-items)) l.fn.found l.found
