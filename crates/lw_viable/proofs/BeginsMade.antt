-- Of each item something is made, side by side, as far as the items are gone through.
use Rattle.std.proofs.Common.{◌≡◌, ℕ, ◌+◌, ◌<◌, ◌≤◌, List, [], ◌∷◌, ◌++◌, Bool, true, Some, length, slice_get, IsTrue, ◌↔◌, refl, sym, ap, ◌∙◌, subst, arith, inl, inr}
use Rattle.std.proofs.lemmas.List.{length-append}
use Rattle.std.proofs.lemmas.Option.{slice_get_within, same_Some}
use Rattle.std.proofs.lemmas.Bool.{cases_lt}
use Rattle.lw_program.proofs.Lists.{slice_get_more, slice_get_after}
use Rattle.lw_viable.specs.EmptyBy.{IsFlagged}

module _ {X Y : Type 0} (Fits : ℕ → X → Y → Type 0) (xs : List X) where
  pub record MadeUpTo (ys : List Y) (n : ℕ) : Type 0 where
    pub sized : length ys ≡ n
    pub made : (i : ℕ) (x : X) → i < n → slice_get xs i ≡ Some x → (y : Y) × (slice_get ys i ≡ Some y) × Fits i x y

  pub one_more : (ys : List Y) (n : ℕ) (x : X) (y : Y) → MadeUpTo ys n → slice_get xs n ≡ Some x → Fits n x y → MadeUpTo (ys ++ y ∷ []) (n + 1)
  one_more ys n x y made at fits = record { sized = omega (arith, made.sized, length-append ys (y ∷ [])); made = each }
    where
      each : (i : ℕ) (z : X) → i < n + 1 → slice_get xs i ≡ Some z → (y' : Y) × (slice_get (ys ++ y ∷ []) i ≡ Some y') × Fits i z y'
      each i z below there = elim (cases_lt i n) [
        | inl before ↦ let m = made.made i z before there in (m.0, slice_get_more ys (y ∷ []) i m.0 m.1, m.2)
        | inr past ↦
            let same : n ≡ i = omega arith in
            let last : length ys + 0 ≡ i = omega (arith, same, made.sized) in (
              y,
              subst (λ i. slice_get (ys ++ y ∷ []) i ≡ Some y) last (slice_get_after ys (y ∷ []) 0 y refl),
              subst (λ z. Fits i z y) (same_Some x z (sym at ∙ ap (slice_get xs) same ∙ there)) (subst (λ i. Fits i x y) same fits),
            )
      ]

  pub all_made : (ys : List Y) (n : ℕ) → MadeUpTo ys n → length xs ≤ n → (i : ℕ) (x : X) → slice_get xs i ≡ Some x → (y : Y) × (slice_get ys i ≡ Some y) × Fits i x y
  all_made ys n made all i x at = made.made i x (omega (arith, all, slice_get_within xs i x at)) at

-- a flag that is so for an item tells it
pub flag_tells : (P : Type 0) (flags : List Bool) (i : ℕ) → (b : Bool) × (slice_get flags i ≡ Some b) × (IsTrue b ↔ P) → IsFlagged flags i ↔ P
flag_tells P flags i (b, at, tells) = (
  λ set. tells.0 (sym (same_Some true b (sym set ∙ at))),
  λ p. at ∙ ap Some (tells.1 p),
)
