use Rattle.std.proofs.Common.{◌<◌, ◌≤◌, ℕ}
use Rattle.lw_viable.specs.EmptyBy.{IsFlagged}
use Rattle.lw_viable.proofs.begins.empty_places.are_all_set.Given as goal

abbrev pub invariant-loop-number : goal.invariant-loop-number
invariant-loop-number l = (q : ℕ) → l.first ≤ q → q < l.number → IsFlagged l.flags q
