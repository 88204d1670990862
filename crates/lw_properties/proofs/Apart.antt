-- A name means one thing in its space: an interface or a union, a rule or a terminal.
use Rattle.std.proofs.Common.{◌≡◌, ℕ, List, Some, slice_get, Contains, inl, inr, arith}
use Rattle.std.proofs.lemmas.Option.{slice_get_within, get_or_from_slice_get}
use Rattle.lw_grammar.specs.Named.{Declaration, IsMeant, StandsBefore}

pub at_its_place : {X : Type 0} (xs : List X) (i : ℕ) (x : X) → slice_get xs i ≡ Some x → Contains xs x
at_its_place xs i x is = (i, slice_get_within xs i x is, get_or_from_slice_get xs i x x is)

never_both : (one other : Declaration) → StandsBefore one other → StandsBefore other one → ⊥
never_both one other (inl lt) (inl gt) = omega arith
never_both one other (inl lt) (inr same) = omega (arith, same.0)
never_both one other (inr same) (inl gt) = omega (arith, same.0)
never_both one other (inr same) (inr at) = omega (arith, same.1, at.1)

pub meant_apart : {X Y : Type 0} (declared_by : X → Declaration) (other_by : Y → Declaration) (name : List ℕ) (xs : List X) (ys : List Y) (i j : ℕ) (x : X) (y : Y) →
    IsMeant declared_by other_by name xs ys i x → IsMeant other_by declared_by name ys xs j y → ⊥
meant_apart declared_by other_by name xs ys i j x y is was =
    never_both (declared_by x) (other_by y) (is.sooner y (at_its_place ys j y was.first.there) was.first.does) (was.sooner x (at_its_place xs i x is.first.there) is.first.does)
