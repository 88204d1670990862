-- Heads put into the sets of rules, some after others.
use Rattle.std.proofs.Common.{◌≡◌, ◌≢◌, ℕ, zero, suc, ◌+◌, ◌<◌, ◌≤◌, ◌↔◌, List, [], ◌∷◌, replicate, length, slice_get, slice_set, Some, ◌⊎◌, inl, inr, refl, sym, ap, ◌∙◌, subst, arith}
use Rattle.std.proofs.lemmas.Bool.{cases_eq}
use Rattle.std.proofs.lemmas.Option.{same_Some, none-some}
use Rattle.lw_first.specs.declared.heads.head.Head.{Head}
use Rattle.lw_first.specs.Sets.{AddsHeads, IsAmongHeads, IsInSet}
use Rattle.lw_kinds.specs.Edges.{SomeBelow}
use Rattle.lw_kinds.proofs.BelowLemmas.{below_none, below_more, below_all}
use Rattle.lw_first.specs.FollowRounds.{AddsAfters}

-- ---- a list with one item changed

module _ {A : Type 0} where
  pub get_set_same : (xs : List A) (n : ℕ) (a b : A) → slice_get xs n ≡ Some b → slice_get (slice_set xs n a) n ≡ Some a
  get_set_same [] n a b is = absurd (none-some b is)
  get_set_same (x ∷ xs) zero a b is = refl
  get_set_same (x ∷ xs) (suc n) a b is = get_set_same xs n a b is

  pub get_set_other : (xs : List A) (n m : ℕ) (a : A) → m ≢ n → slice_get (slice_set xs n a) m ≡ slice_get xs m
  get_set_other [] n m a apart = refl
  get_set_other (x ∷ xs) zero zero a apart = absurd (apart refl)
  get_set_other (x ∷ xs) zero (suc m) a apart = refl
  get_set_other (x ∷ xs) (suc n) zero a apart = refl
  get_set_other (x ∷ xs) (suc n) (suc m) a apart = get_set_other xs n m a (λ is. apart (ap suc is))

  -- what stands in a list of one item alone
  pub get_replicate : (n : ℕ) (x : A) (i : ℕ) (y : A) → slice_get (replicate n x) i ≡ Some y → y ≡ x
  get_replicate zero x i y is = absurd (none-some y is)
  get_replicate (suc n) x zero y is = sym (same_Some x y is)
  get_replicate (suc n) x (suc i) y is = get_replicate n x i y is

-- ---- sets

-- what is in the set of this number
pub in_this : (sets : List (List Head)) (r : ℕ) (set : List Head) → slice_get sets r ≡ Some set → (h : List ℕ) → IsAmongHeads set h ↔ IsInSet sets r h
in_this sets r set at h = (λ among. (set, at, among), λ (other, there, among). subst (λ heads. IsAmongHeads heads h) (same_Some other set (sym there ∙ at)) among)

-- a set that grew from another one by way of a third
longer : {X : Type 0} (was mid now : List X) → (mid ≡ was) ⊎ (length was < length mid) → (now ≡ mid) ⊎ (length mid < length now) → (now ≡ was) ⊎ (length was < length now)
longer was mid now (inl one) (inl two) = inl (two ∙ one)
longer was mid now (inl one) (inr two) = inr (subst (λ xs. length xs < length now) one two)
longer was mid now (inr one) (inl two) = inr (subst (λ xs. length was < length xs) (sym two) one)
longer was mid now (inr one) (inr two) = inr (omega arith)

pub puts_none : (is_so : ℕ → List ℕ → Type 0) → ((r : ℕ) (h : List ℕ) → is_so r h → ⊥) → (sets : List (List Head)) → AddsAfters is_so sets sets
puts_none is_so none sets = record {
  exact = λ r h. (λ has. inl has, λ either. elim either [ inl was ↦ was | inr is ↦ absurd (none r h is) ]);
  grown = λ r now at. (now, at, inl refl);
}

pub puts_as : (is_so was_so : ℕ → List ℕ → Type 0) → ((r : ℕ) (h : List ℕ) → is_so r h ↔ was_so r h) → (old new : List (List Head)) → AddsAfters is_so old new →
    AddsAfters was_so old new
puts_as is_so was_so same old new puts = record {
  exact = λ r h. (
    λ has. elim ((puts.exact r h).0 has) [ inl had ↦ inl had | inr is ↦ inr ((same r h).0 is) ],
    λ either. (puts.exact r h).1 (elim either [ inl had ↦ inl had | inr was ↦ inr ((same r h).1 was) ]),
  );
  grown = puts.grown;
}

pub puts_then : (first second both : ℕ → List ℕ → Type 0) → ((r : ℕ) (h : List ℕ) → both r h ↔ (first r h ⊎ second r h)) → (old mid new : List (List Head)) →
    AddsAfters first old mid → AddsAfters second mid new → AddsAfters both old new
puts_then first second both same old mid new one two = record { exact = λ r h. (forth r h, back r h); grown = grown }
  where
    forth : (r : ℕ) (h : List ℕ) → IsInSet new r h → IsInSet old r h ⊎ both r h
    forth r h has = elim ((two.exact r h).0 has) [
      | inl before ↦ elim ((one.exact r h).0 before) [
        | inl had ↦ inl had
        | inr sooner ↦ inr ((same r h).1 (inl sooner))
      ]
      | inr later ↦ inr ((same r h).1 (inr later))
    ]

    back : (r : ℕ) (h : List ℕ) → IsInSet old r h ⊎ both r h → IsInSet new r h
    back r h either = elim either [
      | inl had ↦ (two.exact r h).1 (inl ((one.exact r h).1 (inl had)))
      | inr is ↦ elim ((same r h).0 is) [
        | inl sooner ↦ (two.exact r h).1 (inl ((one.exact r h).1 (inr sooner)))
        | inr later ↦ (two.exact r h).1 (inr later)
      ]
    ]

    grown : (r : ℕ) (now : List Head) → slice_get new r ≡ Some now → (was : List Head) × (slice_get old r ≡ Some was) × ((now ≡ was) ⊎ (length was < length now))
    grown r now at =
        let second_step = two.grown r now at in
        let first_step = one.grown r second_step.0 second_step.1 in
        (first_step.0, first_step.1, longer first_step.0 second_step.0 now first_step.2 second_step.2)

-- into the set of one rule
pub puts_one : (is_so : List ℕ → Type 0) (sets : List (List Head)) (rule : ℕ) (was now : List Head) → slice_get sets rule ≡ Some was → AddsHeads is_so was now →
    (now ≡ was) ⊎ (length was < length now) → AddsAfters (λ r h. (r ≡ rule) × is_so h) sets (slice_set sets rule now)
puts_one is_so sets rule was now at adds longer = record { exact = λ r h. (forth r h, back r h); grown = grown }
  where
    here : slice_get (slice_set sets rule now) rule ≡ Some now
    here = get_set_same sets rule now was at

    forth : (r : ℕ) (h : List ℕ) → IsInSet (slice_set sets rule now) r h → IsInSet sets r h ⊎ ((r ≡ rule) × is_so h)
    forth r h (set, there, among) = elim (cases_eq r rule) [
      | inl same ↦
          elim ((adds h).0 (subst (λ heads. IsAmongHeads heads h) (same_Some set now (sym there ∙ ap (slice_get (slice_set sets rule now)) same ∙ here)) among)) [
            | inl had ↦ inl (was, ap (slice_get sets) same ∙ at, had)
            | inr is ↦ inr (same, is)
          ]
      | inr differs ↦ inl (set, sym (get_set_other sets rule r now differs) ∙ there, among)
    ]

    back : (r : ℕ) (h : List ℕ) → IsInSet sets r h ⊎ ((r ≡ rule) × is_so h) → IsInSet (slice_set sets rule now) r h
    back r h (inr (same, is)) = (now, ap (slice_get (slice_set sets rule now)) same ∙ here, (adds h).1 (inr is))
    back r h (inl (set, there, among)) = elim (cases_eq r rule) [
      | inl same ↦ (
        now,
        ap (slice_get (slice_set sets rule now)) same ∙ here,
        (adds h).1 (inl (subst (λ heads. IsAmongHeads heads h) (same_Some set was (sym there ∙ ap (slice_get sets) same ∙ at)) among)),
      )
      | inr differs ↦ (set, get_set_other sets rule r now differs ∙ there, among)
    ]

    grown : (r : ℕ) (set : List Head) → slice_get (slice_set sets rule now) r ≡ Some set →
        (before : List Head) × (slice_get sets r ≡ Some before) × ((set ≡ before) ⊎ (length before < length set))
    grown r set there = elim (cases_eq r rule) [
      | inl same ↦
          let is : set ≡ now = same_Some set now (sym there ∙ ap (slice_get (slice_set sets rule now)) same ∙ here) in
          (was, ap (slice_get sets) same ∙ at, subst (λ heads. (heads ≡ was) ⊎ (length was < length heads)) (sym is) longer)
      | inr differs ↦ (set, sym (get_set_other sets rule r now differs) ∙ there, inl refl)
    ]

-- for one item of a list after the other
module _ {X : Type 0} (is_so : ℕ → X → ℕ → List ℕ → Type 0) (xs : List X) where
  abbrev pub PutsBelow : ℕ → List (List Head) → List (List Head) → Type 0
  PutsBelow i = AddsAfters (λ r h. SomeBelow (λ k x. is_so k x r h) xs i)

  pub puts_first : (sets : List (List Head)) → PutsBelow 0 sets sets
  puts_first sets = puts_none (λ r h. SomeBelow (λ k x. is_so k x r h) xs 0) (λ r h. below_none (λ k x. is_so k x r h) xs) sets

  pub puts_more : (i : ℕ) (x : X) → slice_get xs i ≡ Some x → (old mid new : List (List Head)) → PutsBelow i old mid → AddsAfters (is_so i x) mid new →
      PutsBelow (i + 1) old new
  puts_more i x here old mid new =
      puts_then (λ r h. SomeBelow (λ k x. is_so k x r h) xs i) (is_so i x) (λ r h. SomeBelow (λ k x. is_so k x r h) xs (i + 1))
      (λ r h. below_more (λ k x. is_so k x r h) xs i x here) old mid new

  pub puts_all : (i : ℕ) → length xs ≤ i → (old new : List (List Head)) → PutsBelow i old new →
      AddsAfters (λ r h. (k : ℕ) × (x : X) × (slice_get xs k ≡ Some x) × is_so k x r h) old new
  puts_all i past old new =
      puts_as (λ r h. SomeBelow (λ k x. is_so k x r h) xs i) (λ r h. (k : ℕ) × (x : X) × (slice_get xs k ≡ Some x) × is_so k x r h)
      (λ r h. below_all (λ k x. is_so k x r h) xs i past) old new
