-- The code's own words of the places of a grammar's leaves.
use Rattle.std.specs.Prelude.{ℕ, ◌≡◌, ◌⊎◌, ◌↔◌, List, Some, true, slice_get, Contains}
use Rattle.lw_grammar.specs.declared.grammar.Grammar.{Grammar}
use Rattle.lw_grammar.specs.declared.rule.Rule.{Rule}
use Rattle.lw_grammar.specs.Leaves.{Leaf, leaves}
use Rattle.lw_numbers.specs.Parts.{leaf_of}
use Rattle.lw_flow.specs.declared.before.Before.{Before}
use Rattle.lw_flow.specs.Recorded.{AreWaysOf}
use Rattle.lw_properties.specs.declared.places.Place.{Place}

-- a leaf, the rule in whose body it is written, and what may come before it
pub record Spot : Type 0 where
  pub rule : Rule
  pub leaf : Leaf
  pub before : Before

abbrev pub spot_of : Place → Spot
spot_of place = record { rule = place.rule.now; leaf = leaf_of place.leaf; before = place.before.now }

-- it stands in this row, whose entries are those of the leaves ls of the rule's body
pub record StandsIn (rule : Rule) (ls : List Leaf) (row : List Before) (spot : Spot) : Type 0 where
  pub number : ℕ
  pub by : spot.rule ≡ rule
  pub leaf : slice_get ls number ≡ Some spot.leaf
  pub before : slice_get row number ≡ Some spot.before

-- it stands in the row of a rule, by these rows
pub record StandsAt (g : Grammar) (rows : List (List Before)) (spot : Spot) : Type 0 where
  pub number : ℕ
  pub rule : Rule
  pub row : List Before
  pub written : slice_get g.rules number ≡ Some rule
  pub in_rows : slice_get rows number ≡ Some row
  pub stands : StandsIn rule (leaves rule.body) row spot

-- these are the places of all leaves
pub record ArePlacesOf (g : Grammar) (spots : List Spot) : Type 0 where
  pub rows : List (List Before)
  pub ways : AreWaysOf g rows
  pub all : (spot : Spot) → Contains spots spot ↔ StandsAt g rows spot

-- some way comes to what has this before it
abbrev pub IsComeTo : Before → Type 0
IsComeTo before = (before.first ≡ true) ⊎ (before.behind ≡ true)
