use Rattle.lw_index.proofs.Turns.{AreUsesUpTo}
use Rattle.lw_index.proofs.refs.uses.uses_in_turn.Given as goal

abbrev pub invariant-loop-place : goal.invariant-loop-place
invariant-loop-place l = AreUsesUpTo l.answers l.place l.uses.items
