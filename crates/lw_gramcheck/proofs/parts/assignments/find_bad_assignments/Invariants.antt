use Rattle.std.proofs.Common.{take}
use Rattle.lw_faults.specs.Finding.{Finds, OfSome}
use Rattle.lw_gramcheck.specs.BadSites.{HasBadPut}
use Rattle.lw_gramcheck.proofs.parts.assignments.find_bad_assignments.Given as goal

abbrev pub invariant-loop-rule : goal.invariant-loop-rule
invariant-loop-rule l = Finds (OfSome (HasBadPut l.fn.checker.g.now) (take l.rule-index l.rule-items)) l.fn.found l.found
