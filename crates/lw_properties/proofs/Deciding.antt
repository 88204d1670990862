-- What is first in a list, and what a name means, is one or none.
use Rattle.std.proofs.Common.{◌≡◌, ℕ, zero, suc, List, [], ◌∷◌, Bool, true, false, Some, slice_get, Contains, bytes_eq, ◌⊎◌, inl, inr, refl, sym, ◌∙◌, subst, arith, true≢false}
use Rattle.std.proofs.lemmas.Bool.{cases_lt, cases_eq}
use Rattle.std.proofs.lemmas.Option.{none-some, same_Some}
use Rattle.std.proofs.lemmas.Slice.Eq.{bytes_eq-Decides}
use Rattle.lw_grammar.specs.declared.grammar.Grammar.{Grammar}
use Rattle.lw_grammar.specs.declared.declared_types.Interface.{Interface}
use Rattle.lw_grammar.specs.Named.{Declaration, IsFirst, IsMeant, StandsBefore, IsInterface, declared_interface, declared_union}
use Rattle.lw_grammar.proofs.FirstLemmas.{first_item}
use Rattle.lw_grammar.proofs.Every.{first_here, first_later}

-- a fact or that it is none
abbrev pub Either : Type 0 → Type 0
Either P = P ⊎ (P → ⊥)

pub same_bytes : (a b : List ℕ) → Either (a ≡ b)
same_bytes a b = by (bytes_eq a b) refl
  where
    by : (t : Bool) → bytes_eq a b ≡ t → Either (a ≡ b)
    by true e = inl ((bytes_eq-Decides a b).0 e)
    by false e = inr (λ same. true≢false (sym ((bytes_eq-Decides a b).1 same) ∙ e))

stands_before : (one other : Declaration) → Either (StandsBefore one other)
stands_before one other = elim (cases_lt one.file other.file) [
  | inl lt ↦ inl (inl lt)
  | inr ge ↦ elim (cases_eq one.file other.file) [
    | inl same ↦ elim (cases_lt one.span.start other.span.start) [
      | inl lt ↦ inl (inr (same, lt))
      | inr behind ↦ inr (λ h. elim h [ inl lt ↦ omega arith | inr at ↦ omega (arith, at.1) ])
    ]
    | inr differ ↦ inr (λ h. elim h [ inl lt ↦ omega arith | inr at ↦ differ at.0 ])
  ]
]

module _ {X : Type 0} (P : X → Type 0) (decide : (x : X) → Either (P x)) where
  -- it holds of all, or there is one of which it does not hold
  all_or_one : (xs : List X) → ((x : X) → Contains xs x → P x) ⊎ ((x : X) × Contains xs x × (P x → ⊥))
  all_or_one [] = inl (λ x has. absurd (omega (arith, has.1)))
  all_or_one (y ∷ xs) = elim (decide y) [
    | inr not ↦ inr (y, (0, omega arith, refl), not)
    | inl does ↦ elim (all_or_one xs) [
      | inr found ↦ inr (found.0, (suc found.1.0, omega (arith, found.1.1), found.1.2), found.2)
      | inl all ↦ inl (by does all)
    ]
  ]
    where
      by : P y → ((x : X) → Contains xs x → P x) → (x : X) → Contains (y ∷ xs) x → P x
      by does all x (zero, inside, is) = subst P is does
      by does all x (suc k, inside, is) = all x (k, omega arith, is)

  -- the first of which it holds, or it holds of none
  pub first_or_none : (xs : List X) → ((i : ℕ) × (x : X) × IsFirst P xs i x) ⊎ ((i : ℕ) (x : X) → slice_get xs i ≡ Some x → P x → ⊥)
  first_or_none [] = inr (λ i x there does. none-some x there)
  first_or_none (y ∷ xs) = elim (decide y) [
    | inl does ↦ inl (0, y, first_here does)
    | inr not ↦ elim (first_or_none xs) [
      | inl found ↦ inl (suc found.0, found.1, first_later not found.2)
      | inr none ↦ inr (by not none)
    ]
  ]
    where
      by : (P y → ⊥) → ((i : ℕ) (x : X) → slice_get xs i ≡ Some x → P x → ⊥) → (i : ℕ) (x : X) → slice_get (y ∷ xs) i ≡ Some x → P x → ⊥
      by not none zero x there does = not (subst P (sym (same_Some y x there)) does)
      by not none (suc i) x there does = none i x there does

module _ {X Y : Type 0} (declared_by : X → Declaration) (other_by : Y → Declaration) (name : List ℕ) (xs : List X) (others : List Y) where
  meant_or_none : ((i : ℕ) × (x : X) × IsMeant declared_by other_by name xs others i x) ⊎ ((i : ℕ) (x : X) → IsMeant declared_by other_by name xs others i x → ⊥)
  meant_or_none = elim (first_or_none (λ x. (declared_by x).name ≡ name) (λ x. same_bytes (declared_by x).name name) xs) [
    | inr none ↦ inr (λ i x is. none i x is.first.there is.first.does)
    | inl found ↦ elim (all_or_one (Before found.1) (before found.1) others) [
      | inl all ↦ inl (found.0, found.1, record { first = found.2; sooner = all })
      | inr one ↦ inr (λ i x is. one.2 (λ named. subst (λ z. StandsBefore (declared_by z) (other_by one.0)) (first_item is.first found.2) (is.sooner one.0 one.1 named)))
    ]
  ]
    where
      Before : X → Y → Type 0
      Before x other = (other_by other).name ≡ name → StandsBefore (declared_by x) (other_by other)

      before : (x : X) (other : Y) → Either (Before x other)
      before x other = elim (same_bytes (other_by other).name name) [
        | inr apart ↦ inl (λ named. absurd (apart named))
        | inl named ↦ elim (stands_before (declared_by x) (other_by other)) [
          | inl sooner ↦ inl (λ _. sooner)
          | inr not ↦ inr (λ h. not (h named))
        ]
      ]

-- the interface that a name means, or it means none
pub interface_or_none : (g : Grammar) (name : List ℕ) → ((i : ℕ) × (own : Interface) × IsInterface g name i own) ⊎ ((i : ℕ) (own : Interface) → ¬ IsInterface g name i own)
interface_or_none g name = meant_or_none declared_interface declared_union name g.interfaces g.unions
