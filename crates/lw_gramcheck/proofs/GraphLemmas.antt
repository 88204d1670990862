-- A graph that is given its edges one after the other.
use Rattle.std.proofs.Common.{◌≡◌, ◌↔◌, ℕ, ◌+◌, ◌<◌, ◌≤◌, List, [], ◌∷◌, ◌++◌, ◌⊎◌, inl, inr, Contains, get_or, length, take, sym, ap, subst, arith}
use Rattle.std.proofs.lemmas.List.{take_all, take_more}
use Rattle.std.proofs.lemmas.List.Elements.{Contains-append_left, Contains-get_or, Contains-push, Contains-push_cases}
use Rattle.lw_graph.specs.Walks.{Links, HasEdge}
use Rattle.lw_gramcheck.specs.Edges.{Edge, StayBelow}

abbrev pub HasJust : Links → List Edge → Type 0
HasJust graph edges = (a b : ℕ) → HasEdge graph a b ↔ Contains edges (a, b)

pub just_none : (graph : Links) → ((a b : ℕ) → ¬ HasEdge graph a b) → HasJust graph []
just_none graph none a b = (λ edge. absurd (none a b edge), λ (k, inside, is). absurd (let past : k < 0 = inside in omega arith))

module _ (edges : List Edge) (i : ℕ) where
  pub edge_below : (n m : ℕ) → n ≡ m → StayBelow m edges → i < length edges → let e = get_or edges i (0, 0) in (e.0 < n) × (e.1 < n)
  edge_below n m same below inside =
      let e : Edge = get_or edges i (0, 0) in
      let P : ℕ → Type 0 = λ k. (e.0 < k) × (e.1 < k) in
      subst P (sym same) (below e (Contains-get_or edges i (0, 0) inside))

  pub just_more : (old new : Links) → i < length edges → HasJust old (take i edges) →
      (let e = get_or edges i (0, 0) in (a b : ℕ) → HasEdge new a b ↔ (HasEdge old a b ⊎ ((a ≡ e.0) × (b ≡ e.1)))) → HasJust new (take (i + 1) edges)
  just_more old new inside just added a b =
      let P : List Edge → Type 0 = λ list. HasEdge new a b ↔ Contains list (a, b) in
      subst P (sym (take_more edges i (0, 0) inside)) (to, from)
    where
      put : HasEdge old a b ⊎ ((a ≡ (get_or edges i (0, 0)).0) × (b ≡ (get_or edges i (0, 0)).1)) → Contains (take i edges ++ get_or edges i (0, 0) ∷ []) (a, b)
      put (inl edge) = Contains-append_left (take i edges) (get_or edges i (0, 0) ∷ []) (a, b) ((just a b).0 edge)
      put (inr (from, to)) =
          let same : get_or edges i (0, 0) ≡ (a, b) = let last : Edge = get_or edges i (0, 0) in let back : (last.0, last.1) ≡ (a, b) = cc in back in
          let P : Edge → Type 0 = Contains (take i edges ++ get_or edges i (0, 0) ∷ []) in
          subst P same (Contains-push (take i edges) (get_or edges i (0, 0)))

      to : HasEdge new a b → Contains (take i edges ++ get_or edges i (0, 0) ∷ []) (a, b)
      to edge = put ((added a b).0 edge)

      taken : Contains (take i edges) (a, b) ⊎ (get_or edges i (0, 0) ≡ (a, b)) → HasEdge new a b
      taken (inl has) = (added a b).1 (inl ((just a b).1 has))
      taken (inr same) = (added a b).1 (inr (sym (ap (λ x. x.0) same), sym (ap (λ x. x.1) same)))

      from : Contains (take i edges ++ get_or edges i (0, 0) ∷ []) (a, b) → HasEdge new a b
      from has = taken (Contains-push_cases (take i edges) (get_or edges i (0, 0)) (a, b) has)

  pub just_all : (graph : Links) → length edges ≤ i → HasJust graph (take i edges) → HasJust graph edges
  just_all graph past just = subst (HasJust graph) (take_all i edges past) just
