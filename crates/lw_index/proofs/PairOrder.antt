-- The order of pairs, and those of one first document.
use Rattle.std.proofs.Common.{◌≡◌, ℕ, ◌<◌, ◌≤◌, Bool, true, false, ◌&&◌, Ordering, refl, arith}
use Rattle.std.specs.Ordering.{nat_cmp, ordering_then, is_le, is_eq}
use Rattle.std.specs.declared.cmp.Ordering.TheVariants.{Less, Equal, Greater}
use Rattle.std.specs.declared.ops.Bound.TheVariants.{Included, Unbounded}
use Rattle.std.specs.BTreeMap.Range.{range_contains}
use Rattle.std.specs.Cmp.{IsTotalOrder}
use Rattle.std.proofs.lemmas.Cmp.{ranked, then_total, on_total, nat_cmp_total}
use Rattle.std.proofs.lemmas.Map.Lookups.{CmpEqualImpliesEq, exact_pairs, exact_unsigned}
use Rattle.std.proofs.lemmas.Map.Views.{tells_apart}
use Rattle.lw_index.specs.Pairs.{Pair, pair_cmp}
use Rattle.lw_index.proofs.Order.{first_or, below}

pub pair_total : IsTotalOrder pair_cmp
pair_total = then_total (on_total (λ p. p.0) nat_cmp_total) (on_total (λ p. p.1) nat_cmp_total)

pub pair_exact : CmpEqualImpliesEq pair_cmp
pair_exact = exact_pairs nat_cmp nat_cmp exact_unsigned exact_unsigned

pub same_pair : (p q : Pair) → is_eq (pair_cmp p q) ≡ true → p ≡ q
same_pair = tells_apart pair_exact

pub record IsBelow (p q : Pair) : Type 0 where
  pub first : p.0 ≤ q.0
  pub second : p.0 ≡ q.0 → p.1 < q.1

pub pair_below : (p q : Pair) → pair_cmp p q ≡ Less → IsBelow p q
pair_below p q is = first_or p.0 q.0 _ is
    (λ lt. record { first = omega arith; second = λ e. absurd (omega arith) })
    (λ same is. let lt : p.1 < q.1 = below p.1 q.1 is in record { first = omega arith; second = λ e. lt })

-- whether a pair is in the range that begins with the pairs of a document
abbrev pub from_document : ℕ → Pair → Bool
from_document doc p = range_contains pair_cmp (Included (doc, 0)) Unbounded p

starts : (a b c : ℕ) (r : Ordering) → r ≡ nat_cmp a b → a ≤ b → is_le (ordering_then r (nat_cmp 0 c)) ≡ true
starts a b c Less e h = refl
starts a b c Equal e h = least (nat_cmp 0 c) refl
  where
    least : (r : Ordering) → r ≡ nat_cmp 0 c → is_le r ≡ true
    least Less e = refl
    least Equal e = refl
    least Greater e = absurd (omega (arith, ranked 0 c Greater e))
starts a b c Greater e h = absurd (omega (arith, ranked a b Greater e))

and_true : (b : Bool) → b ≡ true → (b && true) ≡ true
and_true true h = refl
and_true false h = cc

pub is_from : (doc : ℕ) (p : Pair) → doc ≤ p.0 → from_document doc p ≡ true
is_from doc p h = and_true _ (starts doc p.0 p.1 (nat_cmp doc p.0) refl h)

begins : (a b : ℕ) (r s : Ordering) → r ≡ nat_cmp a b → (is_le (ordering_then r s) && true) ≡ true → a ≤ b
begins a b Less s e h = omega (arith, ranked a b Less e)
begins a b Equal s e h = omega (arith, ranked a b Equal e)
begins a b Greater s e h = cc

pub from_is : (doc : ℕ) (p : Pair) → from_document doc p ≡ true → doc ≤ p.0
from_is doc p h = begins doc p.0 (nat_cmp doc p.0) (nat_cmp 0 p.1) refl h
