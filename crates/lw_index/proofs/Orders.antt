-- The orders of names and of places.
use Rattle.std.proofs.Common.{◌≡◌, ℕ, ◌≤◌, List, true, false, refl, ap, ◌∙◌, arith}
use Rattle.std.specs.declared.cmp.Ordering.{Ordering}
use Rattle.std.specs.declared.cmp.Ordering.TheVariants.{Less, Equal, Greater}
use Rattle.std.specs.Ordering.{nat_cmp, ordering_then, is_eq, is_gt, eq_by_cmp}
use Rattle.std.specs.Cmp.{IsTotalOrder}
use Rattle.std.specs.FinMap.{IsAntisymmetric, nat_cmp-IsAntisymmetric, slice_cmp-IsAntisymmetric}
use Rattle.std.proofs.lemmas.Cmp.{nat_cmp_total, nat_list_cmp_total, then_total, on_total, tied_itself}
use Rattle.std.proofs.lemmas.Bool.{false≢true}
use Rattle.std.specs.Ordering.{ordering_reverse}
use Rattle.std.specs.Cmp.{ranked}
use Rattle.lw_index.specs.Slots.{Place, name_cmp, place_cmp}
use Rattle.lw_index.specs.Firsts.{IsNotBehind}

pub name_cmp_total : IsTotalOrder name_cmp
name_cmp_total = nat_list_cmp_total

pub name_cmp_same : IsAntisymmetric name_cmp
name_cmp_same = slice_cmp-IsAntisymmetric nat_cmp-IsAntisymmetric

pub place_cmp_total : IsTotalOrder place_cmp
place_cmp_total = then_total (on_total (λ (p : Place). p.0) nat_cmp_total) (on_total (λ (p : Place). p.1) nat_list_cmp_total)

is_Equal : (r : Ordering) → is_eq r ≡ true → r ≡ Equal
is_Equal Less e = absurd (false≢true e)
is_Equal Equal e = refl
is_Equal Greater e = absurd (false≢true e)

both_equal : (a b : Ordering) → ordering_then a b ≡ Equal → (a ≡ Equal) × (b ≡ Equal)
both_equal Less b e = cc
both_equal Equal b e = (refl, e)
both_equal Greater b e = cc

pub place_cmp_same : IsAntisymmetric place_cmp
place_cmp_same p q e =
    let h = both_equal (nat_cmp p.0 q.0) (name_cmp p.1 q.1) e in
    λ i. (nat_cmp-IsAntisymmetric p.0 q.0 h.0 i, name_cmp_same p.1 q.1 h.1 i)

-- two names, or two places, that a test finds equal
pub same_name : (a b : List ℕ) → eq_by_cmp name_cmp a b ≡ true → a ≡ b
same_name a b e = name_cmp_same a b (is_Equal _ e)

pub same_place : (p q : Place) → eq_by_cmp place_cmp p q ≡ true → p ≡ q
same_place p q e = place_cmp_same p q (is_Equal _ e)

pub itself_name : (a : List ℕ) → eq_by_cmp name_cmp a a ≡ true
itself_name a = ap is_eq (tied_itself name_cmp_total a)

pub itself_place : (p : Place) → eq_by_cmp place_cmp p p ≡ true
itself_place p = ap is_eq (tied_itself place_cmp_total p)

-- ---- which of two nodes comes first

pub not_above : (k n : ℕ) (r : Ordering) → r ≡ nat_cmp k n → k ≤ n → is_gt r ≡ false
not_above k n Less e h = refl
not_above k n Equal e h = refl
not_above k n Greater e h = absurd (omega (arith, ranked k n Greater e))

pub by_uri : (u v : List ℕ) (n k : ℕ) → name_cmp u v ≡ Less → IsNotBehind (u, n) (v, k)
by_uri u v n k e = ap (λ r. is_gt (ordering_then r (nat_cmp n k))) e

pub by_uri_turned : (u v : List ℕ) (n k : ℕ) → name_cmp u v ≡ Greater → IsNotBehind (v, k) (u, n)
by_uri_turned u v n k e = by_uri v u k n (name_cmp_total.antisymm v u ∙ ap ordering_reverse e)

pub by_node : (u v : List ℕ) (n k : ℕ) → name_cmp u v ≡ Equal → n ≤ k → IsNotBehind (u, n) (v, k)
by_node u v n k e h = ap (λ r. is_gt (ordering_then r (nat_cmp n k))) e ∙ not_above n k _ refl h

pub by_node_turned : (u v : List ℕ) (n k : ℕ) → name_cmp u v ≡ Equal → k ≤ n → IsNotBehind (v, k) (u, n)
by_node_turned u v n k e h = by_node v u k n (name_cmp_total.antisymm v u ∙ ap ordering_reverse e) h
