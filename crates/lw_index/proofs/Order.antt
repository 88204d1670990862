-- What a sort leaves of what references lead to: the same, and each before the next.
use Rattle.std.proofs.Common.{◌≡◌, ℕ, ◌+◌, ◌<◌, List, Bool, true, false, Ordering, get_or, refl, sym, arith}
use Rattle.std.specs.List.{IsDistinct}
use Rattle.std.specs.List.Sorted.{IsSorted, IsPermutation, IsStrictlySortedBy}
use Rattle.std.specs.Ordering.{nat_cmp, ordering_then, ordering_reverse, eq_by_cmp, is_eq, is_lt, MatchOrdering}
use Rattle.std.specs.declared.cmp.Ordering.TheVariants.{Less, Equal, Greater}
use Rattle.std.specs.Cmp.{IsTotalOrder}
use Rattle.std.proofs.lemmas.Cmp.{ranked, then_total, on_total, nat_cmp_total, eq_by_cmp_equiv}
use Rattle.std.proofs.lemmas.List.Sorted.{Contains-permutation, IsPermutation-sym}
use Rattle.std.proofs.lemmas.Map.Keys.{Less-from_sorted, IsDistinct-from_apart, IsDistinct-IsPermutation, apart_from_distinct, sorted_from_all_adjacent}
use Rattle.lw_index.specs.declared.parts.Answer.{Answer}
use Rattle.lw_index.specs.declared.refs.uses.Use.{Use}
use Rattle.lw_index.specs.Uses.{AreUses, AreUsesInTurn, UsePrecedes}

-- ---- the order

abbrev pub use_cmp : Use → Use → Ordering
use_cmp x y = ordering_then (nat_cmp x.doc y.doc) (ordering_then (nat_cmp x.node y.node) (nat_cmp x.reference y.reference))

use_total : IsTotalOrder use_cmp
use_total = then_total (on_total (λ u. u.doc) nat_cmp_total) (then_total (on_total (λ u. u.node) nat_cmp_total) (on_total (λ u. u.reference) nat_cmp_total))

-- by one number and then by the rest
module _ {G : Type 0} (a b : ℕ) (rest : Ordering) where
  pub first_or : ordering_then (nat_cmp a b) rest ≡ Less → (a < b → G) → (a ≡ b → rest ≡ Less → G) → G
  first_or is below same = by (nat_cmp a b) (ranked a b (nat_cmp a b) refl) is
    where
      by : (r : Ordering) → MatchOrdering r (a < b) (a ≡ b) (b < a) → ordering_then r rest ≡ Less → G
      by Less less _ = below less
      by Equal tied is = same tied is
      by Greater above is = cc

pub below : (a b : ℕ) → nat_cmp a b ≡ Less → a < b
below a b is = ranked a b Less (sym is)

comes_before : (x y : Use) → use_cmp x y ≡ Less → UsePrecedes x y
comes_before x y is =
    first_or x.doc y.doc _ is (λ lt. (omega arith, λ e. absurd (omega arith), λ e f. absurd (omega arith)))
    (λ same is. first_or x.node y.node _ is (λ lt. (omega arith, λ e. omega arith, λ e f. absurd (omega arith)))
    (λ at is. let lt : x.reference < y.reference = below x.reference y.reference is in (omega arith, λ e. omega arith, λ e f. lt)))

-- ---- references differ

tied : (r s t : Ordering) → is_eq (ordering_then r (ordering_then s t)) ≡ true → t ≡ Equal
tied Less s t e = cc
tied Greater s t e = cc
tied Equal Less t e = cc
tied Equal Greater t e = cc
tied Equal Equal Less e = cc
tied Equal Equal Equal e = refl
tied Equal Equal Greater e = cc

is_false : (b : Bool) → (b ≡ true → ⊥) → b ≡ false
is_false true h = absurd (h refl)
is_false false h = refl

apart : (x y : Use) → x.reference < y.reference → eq_by_cmp use_cmp x y ≡ false
apart x y lt = is_false _ (λ e.
    let same : x.reference ≡ y.reference = ranked x.reference y.reference Equal (sym (tied (nat_cmp x.doc y.doc) (nat_cmp x.node y.node) (nat_cmp x.reference y.reference) e)) in
    omega arith)

rises : (r s : Ordering) → s ≡ ordering_reverse r → is_lt s ≡ false → is_eq r ≡ false → r ≡ Less
rises Less s back lt eq = refl
rises Equal s back lt eq = cc
rises Greater s back lt eq = absurd (wrong s back lt)
  where
    wrong : (s : Ordering) → s ≡ ordering_reverse Greater → is_lt s ≡ false → ⊥
    wrong Less back lt = cc
    wrong Equal back lt = cc
    wrong Greater back lt = cc

-- ---- what is sorted

module _ (answers : List Answer) (found sorted : List Use) (turns : AreUsesInTurn answers found) (moved : IsPermutation found sorted) (order : IsSorted use_cmp sorted) where
  distinct : IsDistinct (eq_by_cmp use_cmp) sorted
  distinct = IsDistinct-IsPermutation (eq_by_cmp use_cmp) (eq_by_cmp_equiv use_total).symm found sorted moved
      (IsDistinct-from_apart (eq_by_cmp use_cmp) found (λ i j d lt within. apart (get_or found i d) (get_or found j d) (turns.in_turn i j d lt within)))

  strict : IsStrictlySortedBy use_cmp sorted
  strict =
      let none : Use = record { doc = 0; node = 0; reference = 0 } in
      sorted_from_all_adjacent use_total sorted none (λ k within.
      rises _ _ (use_total.antisymm (get_or sorted (k + 1) none) (get_or sorted k none)) (order k none (omega arith) within)
      (apart_from_distinct (eq_by_cmp use_cmp) sorted k (k + 1) none distinct (omega arith) within))

  pub sorted_uses : AreUses answers sorted
  sorted_uses = record {
    exact = λ u. (
      λ has. (turns.exact u).0 (Contains-permutation sorted found u (IsPermutation-sym found sorted moved) has),
      λ is. Contains-permutation found sorted u moved ((turns.exact u).1 is),
    );
    ordered = λ i j d lt within. comes_before (get_or sorted i d) (get_or sorted j d) (Less-from_sorted use_cmp sorted i j d strict lt within);
  }
