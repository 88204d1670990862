-- How much of a list was not looked into: what the items weigh whose numbers were not seen.
use Rattle.std.proofs.Common.{◌≡◌, ◌≢◌, ℕ, zero, suc, ◌+◌, ◌≤◌, List, [], ◌∷◌, ◌++◌, Bool, true, false, not, ◌||◌, if◌then◌else◌, nat_eq, Some, slice_get, Contains, refl, sym, ap, ap₂, ◌∙◌, subst, arith}
use Rattle.std.specs.List.{list_any}
use Rattle.std.specs.Cmp.{nat_eq_equiv}
use Rattle.std.proofs.lemmas.Bool.{eqb-true, ne_eqb, not-true, not-false}
use Rattle.std.proofs.lemmas.List.Elements.{Contains-push}
use Rattle.std.proofs.lemmas.List.Folds.{list_any-append}
use Rattle.std.proofs.lemmas.Map.Views.{list_any-from_Contains, Contains-from_any}
use Rattle.std.proofs.lemmas.Option.{none-some, same_Some}
use Rattle.indexmap.specs.IndexSet.{insert_key}

module _ {X : Type 0} (weight : X → ℕ) where
  -- what the items weigh that were not seen, where the first has the number i
  abbrev pub unseen : (ℕ → Bool) → ℕ → List X → ℕ
  unseen seen i [] = 0
  unseen seen i (x ∷ xs) = (if seen i then 0 else weight x) + unseen seen (i + 1) xs

  same_behind : (seen now : ℕ → Bool) (i : ℕ) (xs : List X) → ((n : ℕ) → i ≤ n → now n ≡ seen n) → unseen now i xs ≡ unseen seen i xs
  same_behind seen now i [] same = refl
  same_behind seen now i (x ∷ xs) same =
      ap₂ (λ b n. (if b then 0 else weight x) + n) (same i (omega arith)) (same_behind seen now (i + 1) xs (λ n le. same n (omega arith)))

  -- one more is seen
  pub one_seen : (seen now : ℕ → Bool) (i j k : ℕ) (xs : List X) (x : X) → slice_get xs j ≡ Some x → k ≡ i + j → seen k ≡ false → now k ≡ true →
      ((n : ℕ) → n ≢ k → now n ≡ seen n) → unseen now i xs + weight x ≡ unseen seen i xs
  one_seen seen now i j k [] x there is fresh done same = absurd (none-some x there)
  one_seen seen now i zero k (y ∷ xs) x there is fresh done same =
      let here : k ≡ i = omega arith in
      let was : seen i ≡ false = subst (λ n. seen n ≡ false) here fresh in
      let now_so : now i ≡ true = subst (λ n. now n ≡ true) here done in
      let others = same_behind seen now (i + 1) xs (λ n le. same n (λ e. omega (arith, e, le))) in
      let this : y ≡ x = same_Some y x there in
      let before : (if now i then 0 else weight y) ≡ 0 = ap (λ b. if b then 0 else weight y) now_so in
      let after : (if seen i then 0 else weight y) ≡ weight x = ap (λ b. if b then 0 else weight y) was ∙ ap weight this in
      omega (arith, others, before, after)
  one_seen seen now i (suc j) k (y ∷ xs) x there is fresh done same =
      let here = same i (λ e. omega (arith, e)) in
      let first : (if now i then 0 else weight y) ≡ (if seen i then 0 else weight y) = ap (λ b. if b then 0 else weight y) here in
      omega (arith, first, one_seen seen now (i + 1) j k xs x there (omega arith) fresh done same)

-- ---- numbers that were seen, as the keys of a set

-- whether a number is in a list
abbrev pub stands : List ℕ → ℕ → Bool
stands seen k = list_any (nat_eq k) seen

pub stands_in : (seen : List ℕ) (k : ℕ) → stands seen k ≡ true → Contains seen k
stands_in seen k h = Contains-from_any {eq = nat_eq} (λ x y e. eqb-true x y e) k seen h

pub in_stands : (seen : List ℕ) (k : ℕ) → Contains seen k → stands seen k ≡ true
in_stands seen k h = list_any-from_Contains nat_eq_equiv k seen h

module _ (seen now : List ℕ) (k : ℕ) (b : Bool) (told : b ≡ not (stands seen k)) (is : now ≡ insert_key nat_eq seen k) where
  pub newly : b ≡ true → (stands seen k ≡ false) × (now ≡ seen ++ k ∷ [])
  newly does =
      let fresh : stands seen k ≡ false = not-true (stands seen k) (sym told ∙ does) in
      (fresh, is ∙ ap (λ t. if t then seen else seen ++ k ∷ []) fresh)

  pub not_newly : b ≡ false → Contains seen k × (now ≡ seen)
  not_newly not_so =
      let known : stands seen k ≡ true = not-false (stands seen k) (sym told ∙ not_so) in
      (stands_in seen k known, is ∙ ap (λ t. if t then seen else seen ++ k ∷ []) known)

-- one more key
pub key_seen : {X : Type 0} (weight : X → ℕ) (xs : List X) (seen now : List ℕ) (k : ℕ) (x : X) → slice_get xs k ≡ Some x → stands seen k ≡ false → now ≡ seen ++ k ∷ [] →
    unseen weight (stands now) 0 xs + weight x ≡ unseen weight (stands seen) 0 xs
key_seen weight xs seen now k x there fresh is =
    one_seen weight (stands seen) (stands now) 0 k k xs x there (omega arith) fresh
    (in_stands now k (subst (λ ks. Contains ks k) (sym is) (Contains-push seen k)))
    (λ n apart. ap (λ ks. stands ks n) is ∙ list_any-append (nat_eq n) seen (k ∷ []) ∙ ap (λ t. stands seen n || (t || false)) (ne_eqb n k apart) ∙ or_nothing (stands seen n))
  where
    or_nothing : (t : Bool) → (t || (false || false)) ≡ t
    or_nothing true = refl
    or_nothing false = refl
