-- The keywords one after the other: their texts, and the first that is blank.
use Rattle.std.proofs.Common.{◌≡◌, ℕ, ◌+◌, ◌<◌, ◌≤◌, List, [], ◌∷◌, ◌++◌, Some, IfSome, length, get_or, take, slice_get, inl, inr, sym, ap, ap₂, ◌∙◌, subst, arith}
use Rattle.std.proofs.lemmas.Bool.{cases_lt}
use Rattle.std.proofs.lemmas.List.{take_more, map-append}
use Rattle.std.proofs.lemmas.Option.{slice_get-get_or, get_or_from_slice_get}
use Rattle.lw_kinds.specs.declared.kind_table.FirstUse.{FirstUse}
use Rattle.lw_kinds.specs.Rows.{KindRow}
use Rattle.lw_kinds.specs.Uses.{Use}
use Rattle.lw_kinds.proofs.FirstTexts.{texts_of}
use Rattle.lw_terminals.specs.Limits.{IsBlank, AreNotBlank, IsFirstBlank}
use Rattle.lw_terminals.proofs.Items.{item_there}

-- none of the first so many is blank
abbrev pub NoneBlankBelow : List Use → ℕ → Type 0
NoneBlankBelow words k = (j : ℕ) (word : Use) → j < k → slice_get words j ≡ Some word → ¬ IsBlank word.0

module _ (words : List Use) (k : ℕ) (inside : k < length words) (text : List ℕ) (is_text : IfSome (slice_get words k) (λ word. word.0 ≡ text)) where
  its_text : (found : (w : Use) × (slice_get words k ≡ Some w)) → found.0.0 ≡ text
  its_text found = subst (λ o. IfSome o (λ word. word.0 ≡ text)) found.1 is_text

  pub texts_more : (texts new : List (List ℕ)) → texts ≡ texts_of (take k words) → new ≡ texts ++ text ∷ [] → new ≡ texts_of (take (k + 1) words)
  texts_more texts new are put =
      let found = item_there words k inside in
      put ∙ ap₂ (λ xs x. xs ++ x ∷ []) are (sym (its_text found)) ∙ sym (map-append (λ (w : Use). w.0) (take k words) (found.0 ∷ []))
      ∙ ap texts_of (ap (λ w. take k words ++ w ∷ []) (sym (get_or_from_slice_get words k found.0 found.0 found.1)) ∙ sym (take_more words k found.0 inside))

  pub none_blank_more : NoneBlankBelow words k → ¬ IsBlank text → NoneBlankBelow words (k + 1)
  none_blank_more before written j word below there = elim (cases_lt j k) [
    | inl lt ↦ before j word lt there
    | inr ge ↦
        let same : j ≡ k = omega (arith, below, ge) in
        λ blank. written (subst IsBlank (its_text (word, subst (λ n. slice_get words n ≡ Some word) same there)) blank)
  ]

pub first_blank : (row : KindRow) (k : ℕ) → k < length row.keywords → (text : List ℕ) → IfSome (slice_get row.keywords k) (λ word. word.0 ≡ text) → (place : FirstUse) →
    IfSome (slice_get row.keywords k) (λ word. word.1 ≡ place) → NoneBlankBelow row.keywords k → IsBlank text → IsFirstBlank row place
first_blank row k inside text is_text place is_place before blank =
    let found = item_there row.keywords k inside in
    let here = its_text row.keywords k inside text is_text found in
    let used : found.0.1 ≡ place = subst (λ o. IfSome o (λ word. word.1 ≡ place)) found.1 is_place in (
      k,
      found.0.0,
      record {
        there = found.1 ∙ ap (λ use_. Some (found.0.0, use_)) used;
        does = subst IsBlank (sym here) blank;
        none_before = before;
      },
    )

pub none_blank : (words : List Use) (k : ℕ) → length words ≤ k → NoneBlankBelow words k → AreNotBlank words
none_blank words k all none j word inside = none j (get_or words j word) (omega (arith, inside, all)) (slice_get-get_or words j word inside)
