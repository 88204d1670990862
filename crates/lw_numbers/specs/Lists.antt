-- That an item of a list is such a one, and what was put into a set, in words of the code.
use Rattle.std.specs.Prelude.{ℕ, ◌≡◌, ◌<◌, ◌⊎◌, ◌↔◌, List, Some, slice_get}
use Rattle.lw_graph.specs.Walks.{Links, HasEdge}

module _ {X : Type 0} (xs : List X) where
  -- one of the items is such a one, with its place
  abbrev pub SomeAt : (ℕ → X → Type 0) → Type 0
  SomeAt P = (i : ℕ) × (x : X) × (slice_get xs i ≡ Some x) × P i x

  -- one of the first n
  abbrev pub SomeBefore : ℕ → (ℕ → X → Type 0) → Type 0
  SomeBefore n P = (i : ℕ) × (x : X) × (i < n) × (slice_get xs i ≡ Some x) × P i x

-- the new set has what the old one has, and what was put in
pub record Joins {X : Type 0} (put old new : X → Type 0) : Type 0 where
  pub each : (x : X) → new x ↔ (old x ⊎ put x)

abbrev pub HasArc : Links → ℕ × ℕ → Type 0
HasArc graph arc = HasEdge graph arc.0 arc.1

-- these edges were put into a graph
pub record PutsEdges (put : ℕ → ℕ → Type 0) (old new : Links) : Type 0 where
  pub nodes : new.nodes ≡ old.nodes
  pub edges : Joins (λ arc. put arc.0 arc.1) (HasArc old) (HasArc new)
