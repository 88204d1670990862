-- Items whose keys rise: two with one key are one.
use Rattle.std.proofs.Common.{◌≡◌, ℕ, zero, suc, ◌<◌, ◌≤◌, List, [], ◌∷◌, ◌++◌, AllPairs, Contains, slice_index_or, sym, ap, ◌∙◌, arith}
use Rattle.std.proofs.lemmas.List.Elements.{Contains-get_or}

module _ {X : Type 0} (key : X → ℕ) where
  -- each key is above the one before it, the first is at this number or above it, and the last is below the other
  abbrev pub Rises : ℕ → ℕ → List X → Type 0
  Rises low high [] = low ≤ high
  Rises low high (x ∷ xs) = (low ≤ key x) × Rises (suc (key x)) high xs

  lower : (low mid high : ℕ) (xs : List X) → low ≤ mid → Rises mid high xs → Rises low high xs
  lower low mid high [] below rise = omega (arith, below, rise)
  lower low mid high (x ∷ xs) below rise = (omega (arith, below, rise.0), rise.1)

  pub raised : (low mid high : ℕ) (xs : List X) → mid ≤ high → Rises low mid xs → Rises low high xs
  raised low mid high [] below rise = omega (arith, below, rise)
  raised low mid high (x ∷ xs) below rise = (rise.0, raised (suc (key x)) mid high xs below rise.1)

  pub joined : (low mid high : ℕ) (xs ys : List X) → Rises low mid xs → Rises mid high ys → Rises low high (xs ++ ys)
  joined low mid high [] ys rise more = lower low mid high ys rise more
  joined low mid high (x ∷ xs) ys rise more = (rise.0, joined (suc (key x)) mid high xs ys rise.1 more)

  pub pushed : (low high : ℕ) (xs : List X) (x : X) → Rises low (key x) xs → key x < high → Rises low high (xs ++ x ∷ [])
  pushed low high xs x rise below = joined low (key x) high xs (x ∷ []) rise (omega arith, omega (arith, below))

  at_least : (low high : ℕ) (xs : List X) (a : X) → Rises low high xs → Contains xs a → low ≤ key a
  at_least low high [] a rise (k, inside, is) = absurd (omega (arith, inside))
  at_least low high (x ∷ xs) a rise (zero, inside, is) = let same : key x ≡ key a = ap key is in omega (arith, rise.0, same)
  at_least low high (x ∷ xs) a rise (suc k, inside, is) =
      let behind : suc (key x) ≤ key a = at_least (suc (key x)) high xs a rise.1 (k, omega (arith, inside), is) in omega (arith, rise.0, behind)

  pub one_item : (low high : ℕ) (xs : List X) (a b : X) → Rises low high xs → Contains xs a → Contains xs b → key a ≡ key b → a ≡ b
  one_item low high [] a b rise (k, inside, is) has same = absurd (omega (arith, inside))
  one_item low high (x ∷ xs) a b rise (zero, inside, is) (zero, within, was) same = sym is ∙ was
  one_item low high (x ∷ xs) a b rise (zero, inside, is) (suc j, within, was) same =
      let first : key x ≡ key a = ap key is in
      let behind : suc (key x) ≤ key b = at_least (suc (key x)) high xs b rise.1 (j, omega (arith, within), was) in absurd (omega (arith, first, behind, same))
  one_item low high (x ∷ xs) a b rise (suc k, inside, is) (zero, within, was) same =
      let first : key x ≡ key b = ap key was in
      let behind : suc (key x) ≤ key a = at_least (suc (key x)) high xs a rise.1 (k, omega (arith, inside), is) in absurd (omega (arith, first, behind, same))
  one_item low high (x ∷ xs) a b rise (suc k, inside, is) (suc j, within, was) same =
      one_item (suc (key x)) high xs a b rise.1 (k, omega (arith, inside), is) (j, omega (arith, within), was) same

  pub all_rise : (low high : ℕ) (xs : List X) → Rises low high xs → AllPairs (λ x y. key x < key y) xs
  all_rise low high [] rise i j d below inside = absurd (omega (arith, inside))
  all_rise low high (x ∷ xs) rise zero zero d below inside = absurd (omega (arith, below))
  all_rise low high (x ∷ xs) rise zero (suc j) d below inside =
      let behind : suc (key x) ≤ key (slice_index_or xs j d) =
      at_least (suc (key x)) high xs (slice_index_or xs j d) rise.1 (Contains-get_or xs j d (omega (arith, inside))) in omega (arith, behind)
  all_rise low high (x ∷ xs) rise (suc i) zero d below inside = absurd (omega (arith, below))
  all_rise low high (x ∷ xs) rise (suc i) (suc j) d below inside =
      all_rise (suc (key x)) high xs rise.1 i j d (omega (arith, below)) (omega (arith, inside))
