-- Faults that are found, one kind after the other.
use Rattle.std.proofs.Common.{◌≡◌, ℕ, ◌+◌, ◌≤◌, ◌↔◌, List, length, slice_get, Some, ◌⊎◌, inl, inr, Contains}
use Rattle.lw_grammar.specs.declared.fault.GrammarFault.{GrammarFault}
use Rattle.lw_faults.specs.Finding.{Finds}
use Rattle.lw_kinds.specs.Edges.{SomeBelow}
use Rattle.lw_kinds.proofs.BelowLemmas.{below_more, below_all}

pub both_ways : {P Q R : Type 0} → P ↔ Q → Q ↔ R → P ↔ R
both_ways one two = (λ p. two.0 (one.0 p), λ r. one.1 (two.1 r))

pub Finds-none : (is_so : GrammarFault → Type 0) → ((f : GrammarFault) → is_so f → ⊥) → (found : List GrammarFault) → Finds is_so found found
Finds-none is_so none found = record { exact = λ f. (λ has. inl has, λ either. elim either [ inl had ↦ had | inr is ↦ absurd (none f is) ]) }

pub Finds-same : (is_so was_so : GrammarFault → Type 0) → ((f : GrammarFault) → is_so f ↔ was_so f) → (old new : List GrammarFault) → Finds is_so old new → Finds was_so old new
Finds-same is_so was_so same old new finds = record {
  exact = λ f. (
    λ has. elim ((finds.exact f).0 has) [ inl had ↦ inl had | inr is ↦ inr ((same f).0 is) ],
    λ either. (finds.exact f).1 (elim either [ inl had ↦ inl had | inr was ↦ inr ((same f).1 was) ]),
  );
}

pub Finds-then : (first second both : GrammarFault → Type 0) → ((f : GrammarFault) → both f ↔ (first f ⊎ second f)) → (old mid new : List GrammarFault) →
    Finds first old mid → Finds second mid new → Finds both old new
Finds-then first second both same old mid new one two = record { exact = λ f. (forth f, back f) }
  where
    forth : (f : GrammarFault) → Contains new f → Contains old f ⊎ both f
    forth f has = elim ((two.exact f).0 has) [
      | inl before ↦ elim ((one.exact f).0 before) [
        | inl had ↦ inl had
        | inr sooner ↦ inr ((same f).1 (inl sooner))
      ]
      | inr later ↦ inr ((same f).1 (inr later))
    ]

    back : (f : GrammarFault) → Contains old f ⊎ both f → Contains new f
    back f either = elim either [
      | inl had ↦ (two.exact f).1 (inl ((one.exact f).1 (inl had)))
      | inr is ↦ elim ((same f).0 is) [
        | inl sooner ↦ (two.exact f).1 (inl ((one.exact f).1 (inr sooner)))
        | inr later ↦ (two.exact f).1 (inr later)
      ]
    ]

-- for one item of a list after the other
module _ {X : Type 0} (is_so : ℕ → X → GrammarFault → Type 0) (xs : List X) where
  abbrev pub FindsBelow : ℕ → List GrammarFault → List GrammarFault → Type 0
  FindsBelow i = Finds (λ f. SomeBelow (λ k x. is_so k x f) xs i)

  pub Finds-more : (i : ℕ) (x : X) → slice_get xs i ≡ Some x → (old mid new : List GrammarFault) → FindsBelow i old mid → Finds (is_so i x) mid new → FindsBelow (i + 1) old new
  Finds-more i x here old mid new =
      Finds-then (λ f. SomeBelow (λ k x. is_so k x f) xs i) (is_so i x) (λ f. SomeBelow (λ k x. is_so k x f) xs (i + 1))
      (λ f. below_more (λ k x. is_so k x f) xs i x here) old mid new

  pub Finds-all : (i : ℕ) → length xs ≤ i → (old new : List GrammarFault) → FindsBelow i old new → Finds (λ f. (k : ℕ) × (x : X) × (slice_get xs k ≡ Some x) × is_so k x f) old new
  Finds-all i past old new =
      Finds-same (λ f. SomeBelow (λ k x. is_so k x f) xs i) (λ f. (k : ℕ) × (x : X) × (slice_get xs k ≡ Some x) × is_so k x f)
      (λ f. below_all (λ k x. is_so k x f) xs i past) old new
