-- What tests tell that the code makes.
use Rattle.std.proofs.Common.{◌≡◌, ◌↔◌, ℕ, List, Bool, true, false, not, Option, Some, None, MatchOption, is_some, Contains, bytes_eq, ◌⊎◌, inl, inr, refl, sym, ◌∙◌, true≢false}
use Rattle.std.specs.Bool.{Decides}
use Rattle.std.specs.List.{list_any}
use Rattle.std.proofs.lemmas.Bool.{false≢true}
use Rattle.std.proofs.lemmas.Cmp.{nat_list_eq_equiv}
use Rattle.std.proofs.lemmas.Map.Views.{Contains-from_any, list_any-from_Contains}
use Rattle.std.proofs.lemmas.Slice.Eq.{bytes_eq-Decides}

-- a set has the name
pub has_name : (names : List (List ℕ)) (name : List ℕ) (r : Bool) → r ≡ list_any (bytes_eq name) names → Decides r (Contains names name)
has_name names name r is =
    (λ yes. Contains-from_any (λ x y. (bytes_eq-Decides x y).0) name names (sym is ∙ yes), λ has. is ∙ list_any-from_Contains nat_list_eq_equiv name names has)

-- what a set has that has all for which something is so
pub has_such : (P : List ℕ → Type 0) (names : List (List ℕ)) (name : List ℕ) (r : Bool) → r ≡ list_any (bytes_eq name) names → (Contains names name ↔ P name) →
    Decides r (P name)
has_such P names name r is same = let has = has_name names name r is in (λ yes. same.0 (has.0 yes), λ so. has.1 (same.1 so))

-- the one of two that is left
pub is_other : {P Q : Type 0} (r : Bool) → ¬ P → Decides r Q → Decides r (P ⊎ Q)
is_other {P} {Q} r not_one other = (λ yes. inr (other.0 yes), of)
  where
    of : P ⊎ Q → r ≡ true
    of (inl one) = absurd (not_one one)
    of (inr so) = other.1 so

-- nothing was found
pub is_none_of : {X : Type 0} (none : Type 0) (some : X → Type 0) → ((x : X) → some x → ¬ none) → (found : Option X) (r : Bool) → is_some found ≡ not r →
    MatchOption found none some → Decides r none
is_none_of none some never None true is so = (λ _. so, λ _. refl)
is_none_of none some never None false is so = absurd (false≢true is)
is_none_of none some never (Some x) true is so = absurd (true≢false is)
is_none_of none some never (Some x) false is so = (λ yes. absurd (false≢true yes), λ no. absurd (never x so no))
