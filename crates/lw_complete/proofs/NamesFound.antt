-- What a search by halves finds in names that are in order.
use Rattle.std.proofs.Common.{◌≡◌, ◌↔◌, ◌+◌, inl, inr, ℕ, List, Bool, Result, Ok, Err, IsTrue, AllPairs, Contains, get_or, length, sym, ap, ◌∙◌, arith}
use Rattle.std.specs.Cmp.Lexicographic.{slice_cmp, texts_ties}
use Rattle.std.specs.List.Sorted.{IsBinarySearchResult, IsNonDecreasingBy, IsSearchInRange, IsSorted}
use Rattle.std.specs.Ordering.{nat_cmp, is_eq, is_lt, ordering_index, ordering_reverse}
use Rattle.std.specs.Result.{is_ok}
use Rattle.std.specs.declared.cmp.Ordering.TheVariants.{Less, Equal}
use Rattle.std.proofs.lemmas.Bool.{true≢false, cases_lt}
use Rattle.std.proofs.lemmas.Cmp.{nat_list_cmp_total, tied_itself}
use Rattle.std.proofs.lemmas.List.Sorted.{searchable_from_sorted}
use Rattle.std.proofs.lemmas.Slice.Eq.{bytes_eq-Decides}

module _ (names : List (List ℕ)) (name : List ℕ) (up : AllPairs (λ one other. slice_cmp nat_cmp one other ≡ Less) names) where
  in_order : IsSorted (slice_cmp nat_cmp) names
  in_order k d low inside =
      ap is_lt (nat_list_cmp_total.antisymm (get_or names (k + 1) d) (get_or names k d) ∙ ap ordering_reverse (up k (k + 1) d (omega arith) inside))

  rises : IsNonDecreasingBy (λ y. ordering_index (slice_cmp nat_cmp y name)) names
  rises = searchable_from_sorted nat_list_cmp_total (λ (y : List ℕ). y) names name in_order

  same : (other : List ℕ) → slice_cmp nat_cmp other name ≡ Equal → other ≡ name
  same other tie = (bytes_eq-Decides other name).0 (texts_ties other name ∙ ap is_eq tie)

  itself : (other : List ℕ) → other ≡ name → slice_cmp nat_cmp other name ≡ Equal
  itself other is = ap (λ (one : List ℕ). slice_cmp nat_cmp one name) is ∙ tied_itself nat_list_cmp_total name

  pub found_by_halves : (r : Result ℕ ℕ) (told : Bool) → told ≡ is_ok r → IsSearchInRange r (length names) →
      IsBinarySearchResult (λ y. slice_cmp nat_cmp y name) names r → IsTrue told ↔ Contains names name
  found_by_halves (Ok i) told tells inside found = (λ passes. (i, inside, same (get_or names i name) (found name)), λ has. tells)
  found_by_halves (Err i) told tells inside found = (λ passes. absurd (true≢false (sym passes ∙ tells)), λ has. absurd (nowhere has))
    where
      nowhere : Contains names name → ⊥
      nowhere (k, within, is) = elim (cases_lt k i) [
        | inl before ↦ true≢false (ap is_eq (sym (itself (get_or names k name) is) ∙ (found rises).0 k name (omega arith) before))
        | inr behind ↦ true≢false (ap is_eq (sym (itself (get_or names k name) is) ∙ (found rises).1 k name behind within))
      ]
