-- Between which nodes edges are, and the edges of a graph that has one more.
use Rattle.std.proofs.Common.{◌≡◌, ℕ, ◌<◌, List, [], ◌∷◌, ◌++◌, length, get_or, set, Contains, ◌⊎◌, inl, inr, sym, ap, ◌∙◌, subst, ◌↔◌}
use Rattle.std.specs.Prelude.{All}
use Rattle.std.proofs.lemmas.Bool.{cases_eq, cases_lt}
use Rattle.std.proofs.lemmas.List.{get_or-set_same, get_or-set_other, get_or_past}
use Rattle.std.proofs.lemmas.List.Elements.{All-contains, All-get_or, Contains-append_left, Contains-push, Contains-push_cases}
use Rattle.lw_graph.specs.Within.{LeadsWithin}
use Rattle.lw_graph.proofs.Growing.{not_in_none}

-- an edge is between nodes that are there
pub edge_within : (successors : List (List ℕ)) → LeadsWithin (length successors) successors → (a b : ℕ) → Contains (get_or successors a []) b → (a < length successors) × (b < length successors)
edge_within successors within a b has = (inside, All-contains (λ next. next < length successors) (get_or successors a []) b (All-get_or (All (λ next. next < length successors)) successors a [] inside within) has)
  where
    inside : a < length successors
    inside = elim (cases_lt a (length successors)) [
      | inl lt ↦ lt
      | inr past ↦ absurd (not_in_none (subst (λ row. Contains row b) (get_or_past successors a [] past) has))
    ]

module _ (successors : List (List ℕ)) (from to : ℕ) (row : List ℕ) (inside : from < length successors) (is : row ≡ get_or successors from [] ++ to ∷ []) where
  new_row : get_or (set successors from row) from [] ≡ get_or successors from [] ++ to ∷ []
  new_row = get_or-set_same successors from row [] inside ∙ is

  -- the edges that were there, and the new one
  pub one_edge_more : (a b : ℕ) → Contains (get_or (set successors from row) a []) b ↔ (Contains (get_or successors a []) b ⊎ ((a ≡ from) × (b ≡ to)))
  one_edge_more a b = elim (cases_eq a from) [
    | inl same ↦ (λ has. old_or_new same has, λ edge. there same edge)
    | inr differs ↦ (
      λ has. inl (subst (λ r. Contains r b) (get_or-set_other successors from a row [] differs) has),
      λ edge. elim edge [
        | inl old ↦ subst (λ r. Contains r b) (sym (get_or-set_other successors from a row [] differs)) old
        | inr new ↦ absurd (differs new.0)
      ],
    )
  ]
    where
      old_or_new : a ≡ from → Contains (get_or (set successors from row) a []) b → Contains (get_or successors a []) b ⊎ ((a ≡ from) × (b ≡ to))
      old_or_new same has =
          elim (Contains-push_cases (get_or successors from []) to b (subst (λ r. Contains r b) (ap (λ n. get_or (set successors from row) n []) same ∙ new_row) has)) [
            | inl old ↦ inl (subst (λ n. Contains (get_or successors n []) b) (sym same) old)
            | inr new ↦ inr (same, sym new)
          ]

      there : a ≡ from → Contains (get_or successors a []) b ⊎ ((a ≡ from) × (b ≡ to)) → Contains (get_or (set successors from row) a []) b
      there same edge = subst (λ r. Contains r b) (sym (ap (λ n. get_or (set successors from row) n []) same ∙ new_row))
          (elim edge [
            | inl old ↦ Contains-append_left (get_or successors from []) (to ∷ []) b (subst (λ n. Contains (get_or successors n []) b) same old)
            | inr new ↦ subst (Contains (get_or successors from [] ++ to ∷ [])) (sym new.1) (Contains-push (get_or successors from []) to)
          ])
