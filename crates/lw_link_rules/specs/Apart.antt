-- Trees in which each value and each reference begins at a place of its own, and references stand in the order of the text.
-- Held against Langium's `DocumentSegment`: the offset of a part in its document.
use Rattle.std.specs.Prelude.{ℕ, ◌≡◌, ◌<◌, Some, AllPairs, Contains}
use Rattle.lw_base.specs.declared.token.Span.{Span}
use Rattle.lw_reading.specs.Within.{value_place}
use Rattle.lw_tree.specs.declared.node.Value.{Value}
use Rattle.lw_tree.specs.Parts.{Parts, values_at}

pub record StandApart (tree : Parts) : Type 0 where
  -- Two values that begin at one place are one, at one property of one node. Nodes and references have their places in other tables.
  pub values : (n p m q : ℕ) (v w : Value) (s r : Span) → Contains (values_at n p tree.values) v → Contains (values_at m q tree.values) w →
      value_place v ≡ Some s → value_place w ≡ Some r → s.start ≡ r.start → (n ≡ m) × (p ≡ q) × (v ≡ w)
  pub refs : AllPairs (λ r other. r.span.start < other.span.start) tree.refs
