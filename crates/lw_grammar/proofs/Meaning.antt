-- A name means one thing in its space.
use Rattle.std.proofs.Common.{◌≡◌, ℕ, List, Some, slice_get, Contains, inl, inr, arith}
use Rattle.std.proofs.lemmas.Option.{slice_get_within, get_or_from_slice_get}
use Rattle.lw_grammar.specs.Named.{IsMeant, Declaration, StandsBefore}

never_both : (one other : Declaration) → StandsBefore one other → StandsBefore other one → ⊥
never_both one other (inl a) (inl b) = omega arith
never_both one other (inl a) (inr b) = omega (arith, b.0)
never_both one other (inr a) (inl b) = omega (arith, a.0)
never_both one other (inr a) (inr b) = omega (arith, a.1, b.1)

pub one_of_two : {X Y : Type 0} (declared_by : X → Declaration) (other_by : Y → Declaration) (name : List ℕ) (xs : List X) (ys : List Y) (i j : ℕ) (x : X) (y : Y) →
    IsMeant declared_by other_by name xs ys i x → IsMeant other_by declared_by name ys xs j y → ⊥
one_of_two declared_by other_by name xs ys i j x y is was =
    never_both (declared_by x) (other_by y) (is.sooner y (there ys j y was.first.there) was.first.does) (was.sooner x (there xs i x is.first.there) is.first.does)
  where
    there : {Z : Type 0} (zs : List Z) (n : ℕ) (z : Z) → slice_get zs n ≡ Some z → Contains zs z
    there zs n z at = (n, slice_get_within zs n z at, get_or_from_slice_get zs n z z at)
