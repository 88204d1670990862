use Rattle.lw_look.specs.Choices.{value_choices}
use Rattle.lw_lookahead.specs.Counted.{AreCountedPoints}
use Rattle.lw_lookahead.specs.Gathering.{HasSomeValueAlternatives}
use Rattle.lw_lookahead.proofs.PointsGatherSteps.{PutsWhere, all_inside, left_inside}
use Rattle.lw_lookahead.proofs.points.walk.Walk.+values.Given as goal

abbrev pub invariant-add_values-loop-value : goal.invariant-add_values-loop-value
invariant-add_values-loop-value l = record {
  gathers : PutsWhere l.self.first l.self.file (HasSomeValueAlternatives l.values) l.after
      (all_inside l.self.first l.self.file (HasSomeValueAlternatives l.values) l.after value_choices l.values)
      (left_inside l.self.first l.self.file (HasSomeValueAlternatives l.values) l.after value_choices l.values l.value-index)
      l.fn.gathered.points.items l.gathered.points.items;
  counted : AreCountedPoints l.gathered;
}
