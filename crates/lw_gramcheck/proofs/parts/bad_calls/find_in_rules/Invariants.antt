use Rattle.std.proofs.Common.{take}
use Rattle.lw_faults.specs.Finding.{Finds, OfSome}
use Rattle.lw_gramcheck.specs.BadSites.{HasBadSite}
use Rattle.lw_gramcheck.proofs.parts.bad_calls.find_in_rules.Given as goal

abbrev pub invariant-loop-rule : goal.invariant-loop-rule
invariant-loop-rule l = Finds (OfSome (HasBadSite l.fn.checker.g.now) (take l.rule-index l.rule-items)) l.fn.found l.found
