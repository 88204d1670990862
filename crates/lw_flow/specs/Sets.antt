-- Sets of effects and of marks, as the lists of their members.
use Rattle.std.specs.Prelude.{ℕ, ◌≡◌, ◌↔◌, ◌⊎◌, ◌≤◌, ◌<◌, List, [], Option, Some, None, min, Contains}
use Rattle.lw_flow.specs.declared.effect.Effect.{Effect}
use Rattle.lw_flow.specs.declared.effect.Mark.{Mark}
use Rattle.lw_flow.specs.declared.effect.Mark.TheVariants.{Done, Own, Of}
use Rattle.lw_flow.specs.Effects.{weight, joined_effect}
use Rattle.lw_flow.specs.Marks.{Moves}

-- to the old ones those are added that stand so to one of xs
abbrev pub AddsFrom : {A X : Type 0} → (A → X → Type 0) → List X → List A → List X → Type 0
AddsFrom {A} {X} P old xs new = (y : X) → Contains new y ↔ (Contains old y ⊎ ((a : A) × Contains xs a × P a y))

-- the weight of a lightest one
abbrev pub IsLightest : List Effect → Option ℕ → Type 0
IsLightest xs None = xs ≡ []
IsLightest xs (Some w) = ((x : Effect) → Contains xs x → w ≤ weight x) × ((x : Effect) × Contains xs x × (weight x ≡ w))

-- the lesser weight, where there is one before
abbrev pub lesser : Option ℕ → ℕ → Option ℕ
lesser None w = Some w
lesser (Some v) w = Some (min v w)

-- one of the first, and then one of the second
abbrev pub IsJoined : List Effect → List Effect → Effect → Type 0
IsJoined xs ys z = (x : Effect) × (y : Effect) × Contains xs x × Contains ys y × (z ≡ joined_effect x y)

-- the lesser weight, where the mark has an effect
abbrev pub lesser_done : Option ℕ → Mark → Option ℕ
lesser_done o (Done x) = lesser o (weight x)
lesser_done o (Own n) = o
lesser_done o (Of n) = o

-- the weight of a lightest effect that a mark has
abbrev pub IsLightestDone : List Mark → Option ℕ → Type 0
IsLightestDone marks None = (x : Effect) → ¬ Contains marks (Done x)
IsLightestDone marks (Some w) = ((x : Effect) → Contains marks (Done x) → w ≤ weight x) × ((x : Effect) × Contains marks (Done x) × (weight x ≡ w))

-- the mark stays what it is behind something of this weight
abbrev pub Stays : Mark → ℕ → Type 0
Stays (Done x) w = w < weight x
Stays (Own n) w = w < 3
Stays (Of n) w = Unit {0}

-- a mark behind one of the effects
abbrev pub IsMoved : List Mark → List Effect → Mark → Type 0
IsMoved marks effects m = (n : Mark) × (y : Effect) × Contains marks n × Contains effects y × Moves n y m
