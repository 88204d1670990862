use Rattle.std.proofs.Common.{take}
use Rattle.lw_faults.specs.Finding.{Finds, OfSome}
use Rattle.lw_gramcheck.specs.Parts.{MarkedAgain}
use Rattle.lw_gramcheck.proofs.parts.entries.find_marked.Given as goal

abbrev pub invariant-loop-rule : goal.invariant-loop-rule
invariant-loop-rule l = Finds (OfSome MarkedAgain (take l.rule-index l.rules)) l.fn.found l.found
