use Rattle.lw_index.proofs.Gathering.{AreGathered}
use Rattle.lw_index.proofs.refs.users.gather.Given as goal

abbrev pub invariant-loop-pair : goal.invariant-loop-pair
invariant-loop-pair l =
    (goal.iterator-loop-pair).can_next l.pair-iterator × (goal.iterator-loop-pair).is_finite l.pair-iterator × AreGathered l.documents l.target l.slots.items l.pair-iterator
