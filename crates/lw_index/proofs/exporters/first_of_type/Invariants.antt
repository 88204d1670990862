use Rattle.lw_index.proofs.Ahead.{Ahead}
use Rattle.lw_index.proofs.exporters.first_of_type.Given as goal

abbrev pub invariant-loop-place : goal.invariant-loop-place
invariant-loop-place l =
    (goal.iterator-loop-place).can_next l.place-iterator × (goal.iterator-loop-place).is_finite l.place-iterator × Ahead l.exporters l.wanted l.except l.place-iterator
