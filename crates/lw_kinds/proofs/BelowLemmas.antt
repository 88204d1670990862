-- Items in front of a place, one more after the other.
use Rattle.std.proofs.Common.{◌≡◌, ℕ, ◌+◌, ◌≤◌, ◌↔◌, List, length, ◌⊎◌, inl, inr, Contains, slice_get, Some, refl, sym, ap, ◌∙◌, subst, arith}
use Rattle.std.proofs.lemmas.Bool.{cases_eq}
use Rattle.std.proofs.lemmas.Option.{same_Some, slice_get_within, slice_get_read}
use Rattle.lw_kinds.specs.Edges.{SomeBelow, EachBelow}
use Rattle.lw_kinds.proofs.TokenCalls.{got_there}

module _ {X : Type 0} (passes : ℕ → X → Type 0) (xs : List X) where
  pub below_none : SomeBelow passes xs 0 → ⊥
  below_none (k, x, below, there, does) = omega (arith, below)

  pub below_more : (i : ℕ) (x : X) → slice_get xs i ≡ Some x → SomeBelow passes xs (i + 1) ↔ (SomeBelow passes xs i ⊎ passes i x)
  below_more i x here = (forth, back)
    where
      forth : SomeBelow passes xs (i + 1) → SomeBelow passes xs i ⊎ passes i x
      forth (k, y, below, there, does) = elim (cases_eq k i) [
        | inl same ↦ inr (subst (passes i) (same_Some y x (sym there ∙ ap (slice_get xs) same ∙ here)) (subst (λ n. passes n y) same does))
        | inr differs ↦ inl (k, y, omega (arith, below, differs), there, does)
      ]

      back : SomeBelow passes xs i ⊎ passes i x → SomeBelow passes xs (i + 1)
      back (inl (k, y, below, there, does)) = (k, y, omega (arith, below), there, does)
      back (inr does) = (i, x, omega arith, here, does)

  pub below_all : (i : ℕ) → length xs ≤ i → SomeBelow passes xs i ↔ ((k : ℕ) × (x : X) × (slice_get xs k ≡ Some x) × passes k x)
  below_all i past = (
    λ (k, x, below, there, does). (k, x, there, does),
    λ (k, x, there, does). (k, x, omega (arith, past, slice_get_within xs k x there), there, does),
  )

module _ {X : Type 0} (passes : X → Type 0) (xs : List X) where
  -- at some place, or anywhere
  pub at_some_place : ((k : ℕ) × (x : X) × (slice_get xs k ≡ Some x) × passes x) ↔ ((x : X) × Contains xs x × passes x)
  at_some_place = (
    λ (k, x, there, does). (x, got_there xs k x there, does),
    λ (x, (k, inside, is), does). (k, x, slice_get_read xs (length xs) k x refl inside (sym is), does),
  )

  pub each_more : (i : ℕ) (x : X) → slice_get xs i ≡ Some x → EachBelow passes xs i → passes x → EachBelow passes xs (i + 1)
  each_more i x here all does k y below there = elim (cases_eq k i) [
    | inl same ↦ subst passes (same_Some x y (sym here ∙ ap (slice_get xs) (sym same) ∙ there)) does
    | inr differs ↦ all k y (omega (arith, below, differs)) there
  ]
