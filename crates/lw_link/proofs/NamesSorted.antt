-- Names that were sorted, and of which doubles were taken out.
use Rattle.std.proofs.Common.{◌≡◌, ◌↔◌, ℕ, List, true, Contains, AllPairs, bytes_eq}
use Rattle.std.specs.Cmp.Lexicographic.{slice_cmp, texts_ties}
use Rattle.std.specs.List.{dedup}
use Rattle.std.specs.List.Sorted.{IsPermutation, IsSorted}
use Rattle.std.specs.Ordering.{nat_cmp}
use Rattle.std.specs.declared.cmp.Ordering.TheVariants.{Less}
use Rattle.std.proofs.lemmas.Cmp.{nat_list_cmp_total, nat_list_eq_equiv}
use Rattle.std.proofs.lemmas.List.Kept.{Contains-dedup, Contains-from_dedup, IsStrictlySortedBy-dedup}
use Rattle.std.proofs.lemmas.List.Sorted.{Contains-permutation, IsPermutation-sym}
use Rattle.std.proofs.lemmas.Map.Keys.{Less-from_sorted}
use Rattle.std.proofs.lemmas.Slice.Eq.{bytes_eq-Decides}

module _ (found sorted : List (List ℕ)) where
  same_name : (one other : List ℕ) → bytes_eq one other ≡ true → one ≡ other
  same_name one other is = (bytes_eq-Decides one other).0 is

  pub same_names : IsPermutation found sorted → (name : List ℕ) → Contains (dedup bytes_eq sorted) name ↔ Contains found name
  same_names moved name = (
    λ has. Contains-permutation sorted found name (IsPermutation-sym found sorted moved) (Contains-from_dedup bytes_eq sorted name has),
    λ has. Contains-dedup nat_list_eq_equiv same_name sorted name (Contains-permutation found sorted name moved has),
  )

  pub names_ordered : IsSorted (slice_cmp nat_cmp) sorted → AllPairs (λ one other. slice_cmp nat_cmp one other ≡ Less) (dedup bytes_eq sorted)
  names_ordered up i j d below inside =
      Less-from_sorted (slice_cmp nat_cmp) (dedup bytes_eq sorted) i j d (IsStrictlySortedBy-dedup nat_list_cmp_total texts_ties sorted up) below inside
