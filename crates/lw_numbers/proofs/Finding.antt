-- What the table says of two names.
use Rattle.std.proofs.Common.{◌≡◌, ℕ, ◌<◌, ◌≤◌, List, Bool, IsTrue, Some, None, Result, Ok, Err, MatchResult, is_ok, length, get_or, position, slice_get, Contains, bytes_eq, ◌⊎◌, ◌↔◌, inl, inr, refl, sym, ap, ◌∙◌, subst, arith, true≢false}
use Rattle.std.specs.List.{IsDistinct}
use Rattle.std.specs.List.Sorted.{IsBinarySearchResult}
use Rattle.std.specs.Ordering.{nat_cmp}
use Rattle.std.proofs.lemmas.Bool.{cases_eq, cases_lt}
use Rattle.std.proofs.lemmas.List.Sorted.{searched}
use Rattle.std.proofs.lemmas.Option.{none-some, same_Some}
use Rattle.lw_grammar.specs.declared.grammar.Grammar.{Grammar}
use Rattle.lw_grammar.specs.Subtypes.{IsSubtype}
use Rattle.lw_numbers.specs.Kinship.{TypeTable, StandsBelow, same, below, AreSubtypesOf}
use Rattle.lw_numbers.specs.Ascending.{IsAscending}
use Rattle.lw_numbers.proofs.Reaching.{has_place, at_place, only_place}
use Rattle.lw_base.proofs.Lists.{get_or_any, has_at}

module _ (g : Grammar) (table : TypeTable) (are : AreSubtypesOf g table) (one other : List ℕ) (differ : ¬ (one ≡ other)) where
  -- a type that has no number is neither below another nor above it
  pub none_below : (position (bytes_eq one) table.names ≡ None) ⊎ (position (bytes_eq other) table.names ≡ None) → ¬ IsSubtype g one other
  none_below which is = by which ((are.exact one other).0 is) refl refl
    where
      by : {a b : List ℕ} → (position (bytes_eq one) table.names ≡ None) ⊎ (position (bytes_eq other) table.names ≡ None) → StandsBelow table a b → a ≡ one → b ≡ other → ⊥
      by which same is was = differ (sym is ∙ was)
      by (inl none) (below i j ups low high row has) is was =
          let place = has_place table.names one (subst (Contains table.names) is (has_at table.names i _ low)) in none-some place.0 (sym none ∙ place.1)
      by (inr none) (below i j ups low high row has) is was =
          let place = has_place table.names other (subst (Contains table.names) was (has_at table.names j _ high)) in none-some place.0 (sym none ∙ place.1)

  pub found_below : IsDistinct bytes_eq table.names → (low high : ℕ) (row : List ℕ) → position (bytes_eq one) table.names ≡ Some low →
      position (bytes_eq other) table.names ≡ Some high → slice_get table.above low ≡ Some row → Contains row high ↔ IsSubtype g one other
  found_below distinct low high row is was at = (
    λ has. (are.exact one other).1 (below low high row (at_place table.names one low is) (at_place table.names other high was) at has),
    λ sub. by ((are.exact one other).0 sub) refl refl,
  )
    where
      by : {a b : List ℕ} → StandsBelow table a b → a ≡ one → b ≡ other → Contains row high
      by same one_is other_is = absurd (differ (sym one_is ∙ other_is))
      by (below i j ups low_at high_at row_at has) one_is other_is =
          let first = only_place table.names one distinct i (low_at ∙ ap Some one_is) in
          let second = only_place table.names other distinct j (high_at ∙ ap Some other_is) in
          let low_is : i ≡ low = same_Some i low (sym first ∙ is) in
          let high_is : j ≡ high = same_Some j high (sym second ∙ was) in
          let row_is : ups ≡ row = same_Some ups row (sym row_at ∙ ap (slice_get table.above) low_is ∙ at) in
          subst (Contains row) high_is (subst (λ r. Contains r j) row_is has)

-- what a search in a row says
pub row_has : (row : List ℕ) (x : ℕ) (r : Result ℕ ℕ) (told : Bool) → told ≡ is_ok r → IsAscending row → IsBinarySearchResult (λ y. nat_cmp y x) row r →
    IsTrue told ↔ Contains row x
row_has row x r told tells ascends found = by r tells (searched row x r found rises)
  where
    rises : (i j : ℕ) → i ≤ j → j < length row → get_or row i 0 ≤ get_or row j 0
    rises i j le inside = elim (cases_eq i j) [
      | inl equal ↦ omega (arith, ap (λ n. get_or row n 0) equal)
      | inr before ↦ omega (arith, ascends i j (omega arith) inside)
    ]

    by : (r : Result ℕ ℕ) → told ≡ is_ok r → MatchResult r (λ i. (i < length row) × (get_or row i 0 ≡ x))
        (λ i. (i ≤ length row) × ((k : ℕ) → k < i → get_or row k 0 < x) × ((k : ℕ) → i ≤ k → k < length row → x < get_or row k 0)) → IsTrue told ↔ Contains row x
    by (Ok i) tells is = (λ passes. (i, is.0, get_or_any row i x 0 is.0 ∙ is.1), λ has. tells)
    by (Err i) tells is = (
      λ passes. absurd (true≢false (sym passes ∙ tells)),
      λ has.
          let stands : get_or row has.0 0 ≡ x = get_or_any row has.0 0 x has.1 ∙ has.2 in
          elim (cases_lt has.0 i) [
            | inl before ↦ absurd (omega (arith, is.1 has.0 before, stands))
            | inr behind ↦ absurd (omega (arith, is.2 has.0 behind has.1, stands))
          ],
    )
