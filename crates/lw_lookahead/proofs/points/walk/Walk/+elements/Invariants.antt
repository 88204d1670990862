use Rattle.lw_look.specs.Choices.{element_choices}
use Rattle.lw_lookahead.specs.Counted.{AreCountedPoints}
use Rattle.lw_lookahead.specs.Gathering.{HasRowAt, HasSomeAlternatives}
use Rattle.lw_lookahead.proofs.PointsGatherSteps.{PutsWhere, all_inside, left_inside}
use Rattle.lw_lookahead.proofs.points.walk.Walk.+elements.Given as goal

abbrev pub invariant-add_alternatives-loop-part : goal.invariant-add_alternatives-loop-part
invariant-add_alternatives-loop-part l = record {
  gathers : PutsWhere l.self.first l.self.file (HasSomeAlternatives l.parts) l.after
      (all_inside l.self.first l.self.file (HasSomeAlternatives l.parts) l.after element_choices l.parts)
      (left_inside l.self.first l.self.file (HasSomeAlternatives l.parts) l.after element_choices l.parts l.part-index)
      l.fn.gathered.points.items l.gathered.points.items;
  counted : AreCountedPoints l.gathered;
}

abbrev pub invariant-add_row-loop-number : goal.invariant-add_row-loop-number
invariant-add_row-loop-number l = record {
  gathers : PutsWhere l.self.first l.self.file (HasRowAt l.parts) l.after
      (all_inside l.self.first l.self.file (HasRowAt l.parts) l.after element_choices l.parts)
      (left_inside l.self.first l.self.file (HasRowAt l.parts) l.after element_choices l.parts l.number)
      l.fn.gathered.points.items l.gathered.points.items;
  counted : AreCountedPoints l.gathered;
}
