-- What is known of the ways that come to a place, moved on by what is done there.
use Rattle.std.specs.Prelude.{ℕ, ◌<◌}
use Rattle.lw_flow.specs.declared.effect.Effect.{Effect}
use Rattle.lw_flow.specs.declared.effect.Mark.{Mark}
use Rattle.lw_flow.specs.declared.effect.Mark.TheVariants.{Done, Own, Of}
use Rattle.lw_flow.specs.Effects.{weight, joined_effect}

-- behind what is done there, a mark is this one
pub data Moves : Mark → Effect → Mark → Type 0 where
  done : {x y : Effect} → Moves (Done x) y (Done (joined_effect x y))
  own : {n : ℕ} {y : Effect} → weight y < 3 → Moves (Own n) y (Own n)
  of : {n : ℕ} {y : Effect} → Moves (Of n) y (Of n)
