-- What a set holds once something is put in or taken out, and what holds of all items of a list that were gone through.
use Rattle.std.proofs.Common.{◌≡◌, ◌≢◌, ℕ, ◌+◌, ◌<◌, ◌≤◌, Bool, true, false, cond, List, Contains, IsTrue, Ordering, get_or, length, inl, inr, is_eq, refl, sym, ap, subst, ◌∙◌, arith}
use Rattle.std.specs.BTreeSet.{BTreeSet, Updates, contains}
use Rattle.std.specs.BTreeMap.{is_at}
use Rattle.std.specs.Cmp.{nat_cmp_total, tied_itself}
use Rattle.std.specs.List.{list_any}
use Rattle.std.specs.Ordering.{nat_cmp}
use Rattle.std.specs.Str.{bytes_eq}
use Rattle.std.proofs.lemmas.Bool.{cases_lt, false≢true}
use Rattle.std.proofs.lemmas.List.{get_or_default}
use Rattle.lw_build.proofs.Maps.{number_apart}

module _ {K : Type 0} (cmp : K → K → Ordering) (before after : BTreeSet K) where
  pub put_in : (k : K) → Updates cmp before after k true → IsTrue (contains cmp after k)
  put_in k updates = updates.1

  pub put_beside : (k q : K) → Updates cmp before after k true → IsTrue (contains cmp before q) → IsTrue (contains cmp after q)
  put_beside k q updates has = updates.0 q ∙ by (is_at (cmp k) q) (contains cmp before q) has
    where
      by : (b x : Bool) → x ≡ true → cond b true x ≡ true
      by true x is = refl
      by false x is = is

  -- what is there was there, or was put in
  pub was_there : (k q : K) → Updates cmp before after k true → is_at (cmp k) q ≡ false → IsTrue (contains cmp after q) → IsTrue (contains cmp before q)
  was_there k q updates other has = ap (λ b. cond b true (contains cmp before q)) (sym other) ∙ sym (updates.0 q) ∙ has

-- a name that is there stays
pub name_stays : (before after : List (List ℕ)) (k : List ℕ) →
    ((q : List ℕ) → list_any (bytes_eq q) after ≡ cond (bytes_eq k q) true (list_any (bytes_eq q) before)) → (q : List ℕ) →
    IsTrue (list_any (bytes_eq q) before) → IsTrue (list_any (bytes_eq q) after)
name_stays before after k updates q has = updates q ∙ by (bytes_eq k q) (list_any (bytes_eq q) before) has
  where
    by : (b x : Bool) → x ≡ true → cond b true x ≡ true
    by true x is = refl
    by false x is = is

-- numbers
module _ (before after : BTreeSet ℕ) (k : ℕ) (updates : Updates nat_cmp before after k false) where
  itself : is_eq (nat_cmp k k) ≡ true
  itself = ap is_eq (tied_itself nat_cmp_total k)

  pub left_number : (q : ℕ) → IsTrue (contains nat_cmp after q) → IsTrue (contains nat_cmp before q) × (q ≢ k)
  left_number q has = (by (is_at (nat_cmp k) q) (sym (updates.0 q) ∙ has), other)
    where
      by : (b : Bool) → cond b false (contains nat_cmp before q) ≡ true → contains nat_cmp before q ≡ true
      by true is = absurd (false≢true is)
      by false is = is

      other : q ≢ k
      other same = false≢true (sym (ap (λ b. cond b false (contains nat_cmp before k)) itself) ∙ sym (updates.0 k) ∙ ap (contains nat_cmp after) (sym same) ∙ has)

  pub stays_number : (q : ℕ) → q ≢ k → IsTrue (contains nat_cmp before q) → IsTrue (contains nat_cmp after q)
  stays_number q other has = updates.2 q (number_apart k q (λ same. other (sym same))) ∙ has

-- items of a list that were gone through
module _ {X : Type 0} (P : X → Type 0) (xs : List X) where
  abbrev pub HoldUpTo : ℕ → Type 0
  HoldUpTo i = (k : ℕ) (d : X) → k < i → k < length xs → P (get_or xs k d)

  pub none_yet : HoldUpTo 0
  none_yet k d below = absurd (omega (arith, below))

  pub one_further : (i : ℕ) (x : X) → i < length xs → x ≡ get_or xs i x → P x → HoldUpTo i → HoldUpTo (i + 1)
  one_further i x inside is has all k d below within = elim (cases_lt k i) as (λ _. P (get_or xs k d)) [
    | inl before ↦ all k d before within
    | inr ge ↦ (
        let here : k ≡ i = omega arith in
        subst (λ (n : ℕ). P (get_or xs n d)) (sym here) (subst P (is ∙ get_or_default xs i x d inside) has))
  ]

  pub all_hold : (i : ℕ) → length xs ≤ i → HoldUpTo i → (x : X) → Contains xs x → P x
  all_hold i past all x has = subst P has.2 (all has.0 x (omega (arith, has.1)) has.1)
