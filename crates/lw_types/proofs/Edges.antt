-- The edges of a graph, one more of a list after the other.
use Rattle.std.proofs.Common.{◌≡◌, ◌↔◌, ℕ, ◌+◌, ◌<◌, ◌≤◌, List, [], ◌∷◌, ◌++◌, length, get_or, take, Contains, ◌⊎◌, inl, inr, sym, ap, ap₂, subst}
use Rattle.std.proofs.lemmas.List.{take_all, take_more}
use Rattle.std.proofs.lemmas.List.Elements.{Contains-append_left, Contains-push, Contains-push_cases}
use Rattle.lw_graph.specs.Walks.{Links, HasEdge}
use Rattle.lw_types.specs.Rounds.{Arrow}

module _ (edges : List Arrow) (i : ℕ) where
  module _ (d : Arrow) (inside : i < length edges) (old new : Links) where
    abbrev next : Arrow
    next = get_or edges i d

    pub edge_more : ((a b : ℕ) → HasEdge old a b ↔ Contains (take i edges) (a, b)) →
        ((a b : ℕ) → HasEdge new a b ↔ (HasEdge old a b ⊎ ((a ≡ next.0) × (b ≡ next.1)))) → (a b : ℕ) → HasEdge new a b ↔ Contains (take (i + 1) edges) (a, b)
    edge_more before now a b = ((λ has. into ((now a b).0 has)), (λ has. (now a b).1 (from (Contains-push_cases (take i edges) next (a, b) (subst (λ list. Contains list (a, b)) more has)))))
      where
        more : take (i + 1) edges ≡ take i edges ++ next ∷ []
        more = take_more edges i d inside

        into : HasEdge old a b ⊎ ((a ≡ next.0) × (b ≡ next.1)) → Contains (take (i + 1) edges) (a, b)
        into (inl was) = subst (λ list. Contains list (a, b)) (sym more) (Contains-append_left (take i edges) (next ∷ []) (a, b) ((before a b).0 was))
        into (inr is) =
            let same : next ≡ (a, b) = ap₂ (λ x y. (x, y)) (sym is.0) (sym is.1) in
            subst (λ list. Contains list (a, b)) (sym more) (subst (Contains (take i edges ++ next ∷ [])) same (Contains-push (take i edges) next))

        from : Contains (take i edges) (a, b) ⊎ (next ≡ (a, b)) → HasEdge old a b ⊎ ((a ≡ next.0) × (b ≡ next.1))
        from (inl was) = inl ((before a b).1 was)
        from (inr is) = inr (ap (λ e. e.0) (sym is), ap (λ e. e.1) (sym is))

  pub edge_all : (graph : Links) → length edges ≤ i → ((a b : ℕ) → HasEdge graph a b ↔ Contains (take i edges) (a, b)) → (a b : ℕ) →
      HasEdge graph a b ↔ Contains edges (a, b)
  edge_all graph past so a b = let P : List Arrow → Type 0 = λ list. HasEdge graph a b ↔ Contains list (a, b) in subst P (take_all i edges past) (so a b)
