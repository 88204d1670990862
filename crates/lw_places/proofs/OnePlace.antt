-- At an offset one thing stands at most.
use Rattle.std.proofs.Common.{◌≡◌, ℕ, Option, Some, refl, ap}
use Rattle.lw_base.specs.declared.token.Span.{Span}
use Rattle.lw_tree.specs.Parts.{Parts}
use Rattle.lw_places.specs.Places.{IsFirstPlace, NoPlace, IsPlaceAt, inside, at_end, nothing}
use Rattle.lw_places.specs.declared.place.Place.{Place}
use Rattle.lw_places.proofs.Orders.{one_first}

module _ {passes : Span → Type 0} {tree : Parts} where
  same_first : {p q : Place} → IsFirstPlace passes tree p → IsFirstPlace passes tree q → p ≡ q
  same_first {p} {q} is was = one_first p q (is.first q was.span was.takes_up was.does) (was.first p is.span is.takes_up is.does)

  not_none : {p : Place} → NoPlace passes tree → IsFirstPlace passes tree p → ⊥
  not_none {p} none is = none p is.span is.takes_up is.does

pub one_place : (tree : Parts) (offset : ℕ) (place other : Option Place) → IsPlaceAt tree offset place → IsPlaceAt tree offset other → place ≡ other
one_place tree offset place other (inside is) (inside was) = ap Some (same_first is was)
one_place tree offset place other (inside is) (at_end none _) = absurd (not_none none is)
one_place tree offset place other (inside is) (nothing none _) = absurd (not_none none is)
one_place tree offset place other (at_end none _) (inside was) = absurd (not_none none was)
one_place tree offset place other (at_end _ is) (at_end _ was) = ap Some (same_first is was)
one_place tree offset place other (at_end _ is) (nothing _ none) = absurd (not_none none is)
one_place tree offset place other (nothing none _) (inside was) = absurd (not_none none was)
one_place tree offset place other (nothing _ none) (at_end _ was) = absurd (not_none none was)
one_place tree offset place other (nothing _ _) (nothing _ _) = refl
