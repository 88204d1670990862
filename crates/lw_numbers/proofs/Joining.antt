-- Sets that were put into, one time after another, and item by item of a list.
use Rattle.std.proofs.Common.{◌≡◌, ℕ, ◌+◌, ◌<◌, ◌≤◌, List, Some, length, slice_get, ◌⊎◌, ◌↔◌, inl, inr, sym, ap, ◌∙◌, subst, arith}
use Rattle.std.proofs.lemmas.Bool.{cases_order}
use Rattle.std.proofs.lemmas.Option.{slice_get_within, same_Some}
use Rattle.lw_numbers.specs.Lists.{SomeAt, SomeBefore, Joins}

module _ {X : Type 0} where
  pub joins_then : {one two a b c : X → Type 0} → Joins one a b → Joins two b c → Joins (λ x. one x ⊎ two x) a c
  joins_then first second = record {
    each = λ x. (
      λ has. elim ((second.each x).0 has) [
        | inl was ↦ elim ((first.each x).0 was) [ inl old ↦ inl old | inr put ↦ inr (inl put) ]
        | inr put ↦ inr (inr put)
      ],
      λ has. elim has [
        | inl old ↦ (second.each x).1 (inl ((first.each x).1 (inl old)))
        | inr (inl put) ↦ (second.each x).1 (inl ((first.each x).1 (inr put)))
        | inr (inr put) ↦ (second.each x).1 (inr put)
      ],
    );
  }

  pub joins_same : {one two a b : X → Type 0} → ((x : X) → one x ↔ two x) → Joins one a b → Joins two a b
  joins_same same first = record {
    each = λ x. (
      λ has. elim ((first.each x).0 has) [ inl old ↦ inl old | inr put ↦ inr ((same x).0 put) ],
      λ has. elim has [ inl old ↦ (first.each x).1 (inl old) | inr put ↦ (first.each x).1 (inr ((same x).1 put)) ],
    );
  }

  pub joins_none : {one a : X → Type 0} → ((x : X) → ¬ one x) → Joins one a a
  joins_none none = record { each = λ x. (λ has. inl has, λ has. elim has [ inl old ↦ old | inr put ↦ absurd (none x put) ]) }

  pub joins_first : {one a b : X → Type 0} → ((x : X) → ¬ a x) → Joins one a b → (x : X) → b x ↔ one x
  joins_first none first x = (λ has. elim ((first.each x).0 has) [ inl old ↦ absurd (none x old) | inr put ↦ put ], λ put. (first.each x).1 (inr put))

module _ {A : Type 0} (xs : List A) where
  pub some_before_more : (P : ℕ → A → Type 0) (i : ℕ) (x : A) → slice_get xs i ≡ Some x → SomeBefore xs (i + 1) P ↔ (SomeBefore xs i P ⊎ P i x)
  some_before_more P i x at = (λ has. by has (cases_order has.0 i), λ has. back has)
    where
      by : (has : SomeBefore xs (i + 1) P) → (has.0 ≡ i) ⊎ ((has.0 < i) ⊎ (i < has.0)) → SomeBefore xs i P ⊎ P i x
      by (k, y, before, there, is) (inl same) =
          let item : y ≡ x = same_Some y x (sym there ∙ ap (λ n. slice_get xs n) same ∙ at) in
          inr (subst (λ n. P n x) same (subst (P k) item is))
      by (k, y, before, there, is) (inr (inl lt)) = inl (k, y, lt, there, is)
      by (k, y, before, there, is) (inr (inr gt)) = absurd (omega arith)

      back : SomeBefore xs i P ⊎ P i x → SomeBefore xs (i + 1) P
      back (inl (k, y, before, there, is)) = (k, y, omega arith, there, is)
      back (inr is) = (i, x, omega arith, at, is)

  pub some_before_all : (P : ℕ → A → Type 0) (n : ℕ) → length xs ≤ n → SomeBefore xs n P ↔ SomeAt xs P
  some_before_all P n all =
      (λ has. (has.0, has.1, has.3, has.4), λ has. (has.0, has.1, omega (arith, slice_get_within xs has.0 has.1 has.2), has.2, has.3))

  module _ {X : Type 0} (P : ℕ → A → X → Type 0) where
    pub joins_more : {a b c : X → Type 0} (i : ℕ) (y : A) → slice_get xs i ≡ Some y → Joins (λ x. SomeBefore xs i (λ k y. P k y x)) a b → Joins (P i y) b c →
        Joins (λ x. SomeBefore xs (i + 1) (λ k y. P k y x)) a c
    joins_more i y at before one =
        joins_same (λ x. let both = some_before_more (λ k y. P k y x) i y at in (both.1, both.0)) (joins_then before one)

    pub joins_all : {a b : X → Type 0} (n : ℕ) → length xs ≤ n → Joins (λ x. SomeBefore xs n (λ k y. P k y x)) a b → Joins (λ x. SomeAt xs (λ k y. P k y x)) a b
    joins_all n all before = joins_same (λ x. some_before_all (λ k y. P k y x) n all) before
