-- A list is gone through, and none of it so far is what is looked for.
use Rattle.std.proofs.Common.{◌≡◌, ◌⊎◌, inl, inr, ◌+◌, ◌<◌, ◌≤◌, ◌++◌, ◌∷◌, [], ℕ, List, Contains, get_or, length, take, sym, ap, ◌∙◌, subst, arith}
use Rattle.std.proofs.lemmas.List.{take_all, take_more}
use Rattle.std.proofs.lemmas.List.Elements.{Contains-push_cases}

module _ {X : Type 0} (P : X → Type 0) (xs : List X) where
  pub none_first : (x : X) → Contains (take 0 xs) x → ¬ P x
  none_first x (k, inside, is) = absurd (omega (arith, inside))

  pub none_more : (i : ℕ) (x : X) → i < length xs → x ≡ get_or xs i x → ¬ P x → ((y : X) → Contains (take i xs) y → ¬ P y) → (y : X) → Contains (take (i + 1) xs) y → ¬ P y
  none_more i x inside is not before y has = by (Contains-push_cases (take i xs) x y (subst (λ (ys : List X). Contains ys y) more has))
    where
      more : take (i + 1) xs ≡ take i xs ++ x ∷ []
      more = take_more xs i x inside ∙ ap (λ (z : X). take i xs ++ z ∷ []) (sym is)

      by : Contains (take i xs) y ⊎ (x ≡ y) → ¬ P y
      by (inl there) = before y there
      by (inr same) = subst (λ (z : X). ¬ P z) same not

  pub none_all : (i : ℕ) → length xs ≤ i → ((y : X) → Contains (take i xs) y → ¬ P y) → (y : X) → Contains xs y → ¬ P y
  none_all i past none y has = none y (subst (λ (ys : List X). Contains ys y) (sym (take_all i xs past)) has)
