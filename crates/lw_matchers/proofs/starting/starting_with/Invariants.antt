use Rattle.std.proofs.Common.{ℕ, ◌<◌, ◌↔◌, Contains}
use Rattle.lw_matchers.specs.Starting.{StartsAt}
use Rattle.lw_matchers.proofs.starting.starting_with.Given as goal

abbrev pub invariant-loop-k : goal.invariant-loop-k
invariant-loop-k l = (j : ℕ) → Contains l.places.items j ↔ ((j < l.k) × StartsAt l.keywords l.byte j)
