-- What is found number by number.
use Rattle.std.proofs.Common.{ℕ, ◌+◌, ◌<◌, ◌≤◌, List, ◌⊎◌, inl, inr, subst, arith}
use Rattle.std.proofs.lemmas.Bool.{cases_order}
use Rattle.lw_faults.specs.Finding.{Finds}
use Rattle.lw_faults.proofs.Joining.{Finds-then, Finds-iff}
use Rattle.lw_gramcheck.specs.Found.{ByOneOf}

module _ {Y : Type 0} (has : ℕ → Y → Type 0) where
  more : (k : ℕ) (y : Y) → ByOneOf has k y ⊎ has k y → ByOneOf has (k + 1) y
  more k y (inl (i, below, is)) = (i, omega (arith, below), is)
  more k y (inr is) = (k, omega arith, is)

  less : (k : ℕ) (y : Y) → ByOneOf has (k + 1) y → ByOneOf has k y ⊎ has k y
  less k y (i, below, is) = elim (cases_order i k) [
    | inl same ↦ inr (subst (λ n. has n y) same is)
    | inr (inl before) ↦ inl (i, before, is)
    | inr (inr behind) ↦ absurd (omega (arith, below, behind))
  ]

  pub one_more : {a b c : List Y} (k : ℕ) → Finds (ByOneOf has k) a b → Finds (has k) b c → Finds (ByOneOf has (k + 1)) a c
  one_more k before now = Finds-iff (λ y. (more k y, less k y)) (Finds-then before now)

  -- all, where none stands past the end
  pub all_of_them : {a b : List Y} (n k : ℕ) → n ≤ k → ((i : ℕ) (y : Y) → has i y → i < n) → Finds (ByOneOf has k) a b → Finds (ByOneOf has n) a b
  all_of_them n k past inside finds =
      Finds-iff (λ y. (λ (i, below, is). (i, inside i y is, is), λ (i, below, is). (i, omega (arith, below, past), is))) finds
