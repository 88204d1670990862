use Rattle.lw_builder.specs.Finishing.{AreNumberedFrom}
use Rattle.lw_builder.proofs.preorder.numbers.numbers.Given as goal

abbrev pub invariant-loop-place : goal.invariant-loop-place
invariant-loop-place l = AreNumberedFrom l.finished l.numbers.items l.place
