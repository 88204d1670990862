-- Names that are gathered in their order, out of a list that is gone through.
use Rattle.std.proofs.Common.{◌≡◌, ℕ, ◌<◌, ◌-◌, List, [], ◌∷◌, ◌++◌, ◌⊎◌, inl, inr, Contains, AllPairs, length, refl, sym, ap, subst, ◌∙◌, append_assoc, arith}
use Rattle.std.specs.declared.cmp.Ordering.TheVariants.{Less}
use Rattle.std.specs.List.{remove}
use Rattle.std.specs.List.Sorted.{IsStrictlySortedBy}
use Rattle.std.proofs.lemmas.List.{append-nil, length-append}
use Rattle.std.proofs.lemmas.List.Edits.{remove-append_right}
use Rattle.std.proofs.lemmas.List.Elements.{Contains-append_left, Contains-append_cases, Contains-push, Contains-push_cases}
use Rattle.std.proofs.lemmas.List.Quantifiers.{all_pairs_remove}
use Rattle.std.proofs.lemmas.Map.Keys.{Less-from_sorted}
use Rattle.lw_index.specs.Slots.{name_cmp}

abbrev pub Precedes : List ℕ → List ℕ → Type 0
Precedes one other = name_cmp one other ≡ Less

-- a list with one item less
without : (found left : List (List ℕ)) (x : List ℕ) → AllPairs Precedes (found ++ x ∷ left) → AllPairs Precedes (found ++ left)
without found left x ordered =
    let inside : length found < length (found ++ x ∷ left) = omega (arith, length-append found (x ∷ left)) in
    let none : length found - length found ≡ 0 = omega arith in
    subst (AllPairs Precedes)
    (remove-append_right found (x ∷ left) (length found) (length found) refl (omega arith) ∙ ap (λ (k : ℕ). found ++ remove (x ∷ left) k) none)
    (all_pairs_remove Precedes (found ++ x ∷ left) (length found) inside ordered)

-- the first of what is left, or what is behind it
first_or_behind : (x : List ℕ) (left : List (List ℕ)) (n : List ℕ) → Contains (x ∷ left) n → (x ≡ n) ⊎ Contains left n
first_or_behind x left n c = elim (Contains-append_cases (x ∷ []) left n c) [
  | inl one ↦ elim (Contains-push_cases [] x n one) [ inl none ↦ absurd (omega (arith, none.1)) | inr is ↦ inl is ]
  | inr more ↦ inr more
]

module _ (has : List ℕ → Type 0) where
  -- all of which it holds are gathered, or may still come
  pub record AreGathered (found left : List (List ℕ)) : Type 0 where
    pub sound : (n : List ℕ) → Contains found n → has n
    pub all : (n : List ℕ) → has n → Contains found n ⊎ Contains left n
    pub ordered : AllPairs Precedes (found ++ left)

  pub none_gathered : (found left : List (List ℕ)) → found ≡ [] → IsStrictlySortedBy name_cmp left → ((n : List ℕ) → has n → Contains left n) → AreGathered found left
  none_gathered found left none sorted all = record {
    sound = λ n c. absurd (omega (arith, c.1, ap length none));
    all = λ n h. inr (all n h);
    ordered = subst (λ (ns : List (List ℕ)). AllPairs Precedes (ns ++ left)) (sym none) (λ i j d lt inside. Less-from_sorted name_cmp left i j d sorted lt inside);
  }

  pub one_gathered : (found left : List (List ℕ)) (x : List ℕ) → has x → AreGathered found (x ∷ left) → AreGathered (found ++ x ∷ []) left
  one_gathered found left x is are = record {
    sound = λ n c. elim (Contains-push_cases found x n c) [ inl before ↦ are.sound n before | inr same ↦ subst has same is ];
    all = λ n h. elim (are.all n h) [
      | inl before ↦ inl (Contains-append_left found (x ∷ []) n before)
      | inr later ↦ elim (first_or_behind x left n later) [ inl same ↦ inl (subst (Contains (found ++ x ∷ [])) same (Contains-push found x)) | inr behind ↦ inr behind ]
    ];
    ordered = subst (AllPairs Precedes) (sym (append_assoc found (x ∷ []) left)) are.ordered;
  }

  pub one_passed : (found left : List (List ℕ)) (x : List ℕ) → ¬ has x → AreGathered found (x ∷ left) → AreGathered found left
  one_passed found left x not are = record {
    sound = are.sound;
    all = λ n h. elim (are.all n h) [
      | inl before ↦ inl before
      | inr later ↦ elim (first_or_behind x left n later) [ inl same ↦ absurd (not (subst has (sym same) h)) | inr behind ↦ inr behind ]
    ];
    ordered = without found left x are.ordered;
  }

  pub all_gathered : (found left : List (List ℕ)) (n : List ℕ) → left ≡ [] → AreGathered found left → has n → Contains found n
  all_gathered found left n none are h = elim (are.all n h) [ inl before ↦ before | inr later ↦ absurd (omega (arith, later.1, ap length none)) ]

  pub in_order : (found left : List (List ℕ)) → left ≡ [] → AreGathered found left → AllPairs Precedes found
  in_order found left none are = subst (AllPairs Precedes) (ap (λ (ns : List (List ℕ)). found ++ ns) none ∙ append-nil found) are.ordered
