-- Edges put in, one kind after the other.
use Rattle.std.proofs.Common.{◌≡◌, ℕ, ◌+◌, ◌≤◌, ◌<◌, ◌↔◌, List, length, get_or, Contains, ◌⊎◌, inl, inr, refl, ◌∙◌}
use Rattle.std.proofs.lemmas.Option.{slice_get_read}
use Rattle.lw_graph.specs.Walks.{Links, HasEdge}
use Rattle.lw_kinds.specs.Edges.{SomeBelow, AddsEdges}
use Rattle.lw_kinds.proofs.BelowLemmas.{below_none, below_more, below_all, at_some_place}

module _ (from : ℕ) where
  pub AddsEdges-none : (is_so : ℕ → Type 0) → ((b : ℕ) → is_so b → ⊥) → (graph : Links) → AddsEdges from is_so graph graph
  AddsEdges-none is_so none graph = record {
    nodes = refl;
    edges = λ a b. (λ edge. inl edge, λ edge. elim edge [ inl old ↦ old | inr new ↦ absurd (none b new.1) ]);
  }

  pub AddsEdges-same : (is_so was_so : ℕ → Type 0) → ((b : ℕ) → is_so b ↔ was_so b) → (old new : Links) → AddsEdges from is_so old new → AddsEdges from was_so old new
  AddsEdges-same is_so was_so same old new adds = record {
    nodes = adds.nodes;
    edges = λ a b. (
      λ edge. elim ((adds.edges a b).0 edge) [ inl before ↦ inl before | inr now ↦ inr (now.0, (same b).0 now.1) ],
      λ edge. (adds.edges a b).1 (elim edge [ inl before ↦ inl before | inr now ↦ inr (now.0, (same b).1 now.1) ]),
    );
  }

  pub AddsEdges-then : (first second both : ℕ → Type 0) → ((b : ℕ) → both b ↔ (first b ⊎ second b)) → (old mid new : Links) →
      AddsEdges from first old mid → AddsEdges from second mid new → AddsEdges from both old new
  AddsEdges-then first second both same old mid new one two = record { nodes = two.nodes ∙ one.nodes; edges = λ a b. (forth a b, back a b) }
    where
      forth : (a b : ℕ) → HasEdge new a b → HasEdge old a b ⊎ ((a ≡ from) × both b)
      forth a b edge = elim ((two.edges a b).0 edge) [
        | inl before ↦ elim ((one.edges a b).0 before) [
          | inl was ↦ inl was
          | inr now ↦ inr (now.0, (same b).1 (inl now.1))
        ]
        | inr now ↦ inr (now.0, (same b).1 (inr now.1))
      ]

      back : (a b : ℕ) → HasEdge old a b ⊎ ((a ≡ from) × both b) → HasEdge new a b
      back a b edge = elim edge [
        | inl was ↦ (two.edges a b).1 (inl ((one.edges a b).1 (inl was)))
        | inr now ↦ elim ((same b).0 now.1) [
          | inl sooner ↦ (two.edges a b).1 (inl ((one.edges a b).1 (inr (now.0, sooner))))
          | inr later ↦ (two.edges a b).1 (inr (now.0, later))
        ]
      ]

  -- for one item of a list after the other
  module _ {X : Type 0} (is_so : X → ℕ → Type 0) (xs : List X) where
    abbrev pub AddsEdgesBelow : ℕ → Links → Links → Type 0
    AddsEdgesBelow i = AddsEdges from (λ b. SomeBelow (λ _ x. is_so x b) xs i)

    pub AddsEdges-first : (graph : Links) → AddsEdgesBelow 0 graph graph
    AddsEdges-first graph = AddsEdges-none (λ b. SomeBelow (λ _ x. is_so x b) xs 0) (λ b. below_none (λ _ x. is_so x b) xs) graph

    pub AddsEdges-more : (i : ℕ) (x : X) → i < length xs → x ≡ get_or xs i x → (old mid new : Links) → AddsEdgesBelow i old mid → AddsEdges from (is_so x) mid new → AddsEdgesBelow (i + 1) old new
    AddsEdges-more i x inside is old mid new =
        AddsEdges-then (λ b. SomeBelow (λ _ x. is_so x b) xs i) (is_so x) (λ b. SomeBelow (λ _ x. is_so x b) xs (i + 1))
        (λ b. below_more (λ _ x. is_so x b) xs i x (slice_get_read xs (length xs) i x refl inside is)) old mid new

    pub AddsEdges-all : (i : ℕ) → length xs ≤ i → (old new : Links) → AddsEdgesBelow i old new → AddsEdges from (λ b. (x : X) × Contains xs x × is_so x b) old new
    AddsEdges-all i past old new =
        AddsEdges-same (λ b. SomeBelow (λ _ x. is_so x b) xs i) (λ b. (x : X) × Contains xs x × is_so x b)
        (λ b. let placed = below_all (λ _ x. is_so x b) xs i past in
        let some = at_some_place (λ x. is_so x b) xs in (λ below. some.0 (placed.0 below), λ has. placed.1 (some.1 has))) old new
