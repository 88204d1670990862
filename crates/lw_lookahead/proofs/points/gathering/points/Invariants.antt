use Rattle.lw_lookahead.specs.Counted.{AreCountedPoints}
use Rattle.lw_lookahead.proofs.RuleSteps.{IsLeftFrom}
use Rattle.lw_lookahead.proofs.points.gathering.points.Given as goal

abbrev pub invariant-loop-number : goal.invariant-loop-number
invariant-loop-number l = record {
  left : IsLeftFrom l.first l.followers l.number l.gathered.points.items;
  counted : AreCountedPoints l.gathered;
}
