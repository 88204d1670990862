-- The places of a type begin with the empty URI.
use Rattle.std.proofs.Common.{◌≡◌, ℕ, ◌≤◌, List, [], ◌∷◌, false, Option, Some, None, refl, sym, arith}
use Rattle.std.specs.declared.cmp.Ordering.{Ordering}
use Rattle.std.specs.declared.cmp.Ordering.TheVariants.{Less, Equal, Greater}
use Rattle.std.specs.Ordering.{nat_cmp, ordering_then, is_gt, is_lt}
use Rattle.std.specs.Cmp.{ranked}
use Rattle.std.specs.Cmp.Lexicographic.{slice_cmp}
use Rattle.std.specs.BTreeMap.Range.{IsLeBy}
use Rattle.std.specs.Option.{IsSome}
use Rattle.std.proofs.lemmas.Bool.{false≢true}
use Rattle.lw_index.specs.Slots.{Place, place_cmp}

pub empty_first : (u : List ℕ) → is_gt (slice_cmp nat_cmp [] u) ≡ false
empty_first [] = refl
empty_first (x ∷ xs) = refl

by_type : (a b : ℕ) (u : List ℕ) (r : Ordering) → r ≡ nat_cmp a b → a ≤ b → is_gt (ordering_then r (slice_cmp nat_cmp [] u)) ≡ false
by_type a b u Less e h = refl
by_type a b u Equal e h = empty_first u
by_type a b u Greater e h = absurd (omega (arith, ranked a b Greater e))

-- no place of a type, or of a later one, comes before its start
pub start_first : (a b : ℕ) (u : List ℕ) → a ≤ b → IsLeBy place_cmp (a, []) (b, u)
start_first a b u h = by_type a b u (nat_cmp a b) refl h

le_by : (a b : ℕ) (r s : Ordering) → r ≡ nat_cmp a b → is_gt (ordering_then r s) ≡ false → a ≤ b
le_by a b Less s e h = omega (arith, ranked a b Less e)
le_by a b Equal s e h = omega (arith, ranked a b Equal e)
le_by a b Greater s e h = absurd (false≢true (sym h))

pub types_rise : (p q : Place) → IsLeBy place_cmp p q → p.0 ≤ q.0
types_rise p q h = le_by p.0 q.0 (nat_cmp p.0 q.0) (slice_cmp nat_cmp p.1 q.1) refl h

lt_by : (a b : ℕ) (r s : Ordering) → r ≡ nat_cmp a b → is_lt (ordering_then r s) ≡ false → b ≤ a
lt_by a b Less s e h = absurd (false≢true (sym h))
lt_by a b Equal s e h = omega (arith, ranked a b Equal e)
lt_by a b Greater s e h = omega (arith, ranked a b Greater e)

pub types_fall : (p q : Place) → is_lt (place_cmp p q) ≡ false → q.0 ≤ p.0
types_fall p q h = lt_by p.0 q.0 (nat_cmp p.0 q.0) (slice_cmp nat_cmp p.1 q.1) refl h

pub none_unless : {X : Type 0} (o : Option X) → (IsSome o → ⊥) → o ≡ None
none_unless None h = refl
none_unless (Some x) h = absurd (h refl)
