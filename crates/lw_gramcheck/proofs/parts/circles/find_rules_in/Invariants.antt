use Rattle.lw_faults.specs.Finding.{Finds, AtSomeBelow}
use Rattle.lw_gramcheck.specs.Edges.{RuleIn}
use Rattle.lw_gramcheck.proofs.parts.circles.find_rules_in.Given as goal

abbrev pub invariant-loop-r : goal.invariant-loop-r
invariant-loop-r l = Finds (AtSomeBelow (RuleIn l.fn.round) l.r l.fn.rules) l.fn.found l.found
