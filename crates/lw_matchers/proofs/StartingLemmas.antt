-- The table of the keywords by their first byte, as it is built.
use Rattle.std.proofs.Common.{◌≡◌, ℕ, ◌+◌, ◌<◌, ◌↔◌, List, [], ◌∷◌, ◌++◌, length, get_or, slice_index_or, Some, slice_get, Contains, All, sym, subst, ap, ◌∙◌, arith, inl, inr}
use Rattle.std.proofs.Math.Seq.{get_or-append_seam}
use Rattle.std.proofs.lemmas.Bool.{cases_lt}
use Rattle.std.proofs.lemmas.List.{get_or_append_left}
use Rattle.std.proofs.lemmas.List.Elements.{Contains-push, Contains-push_cases, Contains-append_left, Contains-get_or}
use Rattle.std.proofs.lemmas.Option.{same_Some, slice_get_within}
use Rattle.lw_matchers.specs.Starting.{StartsAt, AreStarting}

-- the places below i of the keywords that begin with the byte
abbrev pub AreStartingBelow : ℕ → List (List ℕ) → ℕ → List ℕ → Type 0
AreStartingBelow i keywords byte places = (j : ℕ) → Contains places j ↔ ((j < i) × StartsAt keywords byte j)

abbrev BeginsWith : List ℕ → ℕ → Type 0
BeginsWith keyword byte = (rest : List ℕ) × (keyword ≡ byte ∷ rest)

module _ (i : ℕ) (keywords : List (List ℕ)) (byte : ℕ) (places keyword : List ℕ) (there : slice_get keywords i ≡ Some keyword)
    (before : AreStartingBelow i keywords byte places) where
  pub place_taken : BeginsWith keyword byte → AreStartingBelow (i + 1) keywords byte (places ++ i ∷ [])
  place_taken begins = λ j. (
    λ h. elim (Contains-push_cases places i j h) [
      | inl old ↦ (let b = (before j).0 old in (omega (arith, b.0), b.1))
      | inr same ↦ (omega arith, (begins.0, ap (slice_get keywords) (sym same) ∙ there ∙ ap Some begins.1))
    ],
    λ h. elim (cases_lt j i) [
      | inl lt ↦ Contains-append_left places (i ∷ []) j ((before j).1 (lt, h.1))
      | inr ge ↦ (let same : i ≡ j = omega (arith, h.0) in subst (Contains (places ++ i ∷ [])) same (Contains-push places i))
    ],
  )

  pub place_left : ¬ BeginsWith keyword byte → AreStartingBelow (i + 1) keywords byte places
  place_left other = λ j. (
    λ h. let b = (before j).0 h in (omega (arith, b.0), b.1),
    λ h. elim (cases_lt j i) [
      | inl lt ↦ (before j).1 (lt, h.1)
      | inr ge ↦ (let same : i ≡ j = omega (arith, h.0) in
          absurd (other (h.1.0, same_Some _ _ (sym there ∙ ap (slice_get keywords) same ∙ h.1.1))))
    ],
  )

-- one more byte
pub one_more_byte : (keywords table : List (List ℕ)) (i : ℕ) (places : List ℕ) → length table ≡ i →
    ((byte : ℕ) (d : List ℕ) → byte < i → AreStarting keywords byte (slice_index_or table byte d)) → AreStarting keywords i places →
    (byte : ℕ) (d : List ℕ) → byte < i + 1 → AreStarting keywords byte (slice_index_or (table ++ places ∷ []) byte d)
one_more_byte keywords table i places long before here byte d below =
    elim (cases_lt byte i) [
      | inl lt ↦ subst (AreStarting keywords byte) (sym (get_or_append_left table (places ∷ []) d byte (omega arith))) (before byte d lt)
      | inr ge ↦ (let same : byte ≡ length table = omega arith in
          subst (AreStarting keywords byte) (sym (ap (λ k. get_or (table ++ places ∷ []) k d) same ∙ get_or-append_seam table places [] d))
          (let at : i ≡ byte = omega arith in subst (λ k. AreStarting keywords k places) at here))
    ]

pub within-starting : (keywords : List (List ℕ)) (byte : ℕ) (places : List ℕ) → AreStarting keywords byte places → All (λ k. k < length keywords) places
within-starting keywords byte places starting i d below =
    let at = (starting (get_or places i d)).0 (Contains-get_or places i d below) in
    slice_get_within keywords (get_or places i d) (byte ∷ at.0) at.1
