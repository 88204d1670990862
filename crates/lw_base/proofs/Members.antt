-- The finite set that the keys of a tree make, and its members.
use Rattle.std.proofs.Common.{◌≡◌, ℕ, Bool, true, ◌||◌, cond, sym, ap, ◌∙◌, rules}
use Rattle.std.proofs.lemmas.Cmp.{nat_cmp_total, eq_by_cmp_equiv}
use Rattle.std.specs.BTreeSet.{BTreeSet, Updates, contains}
use Rattle.std.specs.Ordering.{nat_cmp, eq_by_cmp}
use Rattle.std.specs.FinSet as set
use Rattle.std.specs.FinSet.{same_set, nat_cmp-IsAntisymmetric, contains-from_list, contains-insert}

either_way : (a b : Bool) → cond a true b ≡ (a || b)
either_way a b = grind (rules)

-- a key is found exactly where the set of the keys has it
pub contains-keys : (s : BTreeSet ℕ) (k : ℕ) → contains nat_cmp s k ≡ set.contains (set.from_list {R = nat_cmp} s.keys) k
contains-keys s k = sym (contains-from_list nat_cmp_total s.keys k)

-- what a tree's `insert` leaves is the set with the key put in
pub from_list-keys_insert : (s n : BTreeSet ℕ) (k : ℕ) → Updates nat_cmp s n k true → set.from_list {R = nat_cmp} n.keys ≡ set.insert (set.from_list s.keys) k
from_list-keys_insert s n k updates =
    same_set nat_cmp_total nat_cmp-IsAntisymmetric _ _ (λ q.
    let was = set.contains (set.from_list {R = nat_cmp} s.keys) q in
    sym (contains-keys n q) ∙ updates.0 q ∙ ap (cond (eq_by_cmp nat_cmp k q) true) (contains-keys s q) ∙ either_way (eq_by_cmp nat_cmp k q) was
    ∙ ap (λ b. b || was) (same q) ∙ sym (contains-insert nat_cmp_total (set.from_list s.keys) k q))
  where
    same : (q : ℕ) → eq_by_cmp nat_cmp k q ≡ eq_by_cmp nat_cmp q k
    same q = (eq_by_cmp_equiv nat_cmp_total).symm k q
