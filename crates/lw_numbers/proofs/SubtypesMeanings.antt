-- A name has one meaning in its space of names.
use Rattle.std.proofs.Common.{ℕ, List, inl, inr, arith}
use Rattle.lw_grammar.specs.Named.{Declaration, StandsBefore, IsMeant}
use Rattle.lw_base.proofs.Lists.{has_at}

not_both_before : (a b : Declaration) → StandsBefore a b → ¬ StandsBefore b a
not_both_before a b (inl one) (inl other) = omega arith
not_both_before a b (inl one) (inr other) = omega (arith, other.0)
not_both_before a b (inr one) (inl other) = omega (arith, one.0)
not_both_before a b (inr one) (inr other) = omega (arith, one.1, other.1)

module _ {X Y : Type 0} (declared_by : X → Declaration) (other_by : Y → Declaration) (name : List ℕ) (xs : List X) (others : List Y) where
  -- not an item of the one list and one of the other
  pub not_both : (i : ℕ) (x : X) (j : ℕ) (y : Y) → IsMeant declared_by other_by name xs others i x → ¬ IsMeant other_by declared_by name others xs j y
  not_both i x j y is was =
      not_both_before (declared_by x) (other_by y) (is.sooner y (has_at others j y was.first.there) was.first.does)
      (was.sooner x (has_at xs i x is.first.there) is.first.does)
