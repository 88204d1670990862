-- The places that pass, one more after the other.
use Rattle.std.proofs.Common.{◌≡◌, ℕ, ◌+◌, ◌<◌, inl, inr, List, [], ◌∷◌, ◌++◌, Some, length, get_or, slice_get, Contains, refl, sym, ap₂, ◌∙◌, subst, arith}
use Rattle.std.specs.List.Sorted.{IsStrictlyIncreasing}
use Rattle.std.proofs.lemmas.Bool.{cases_eq, cases_lt}
use Rattle.std.proofs.lemmas.List.{map-append, get_or_append_left, get_or_push, length-append}
use Rattle.std.proofs.lemmas.List.Elements.{Contains-get_or, Contains-append_left, Contains-append_right, Contains-append_cases}
use Rattle.lw_grammar.specs.Kept as keep
use Rattle.lw_grammar.proofs.Every.{every_of}
use Rattle.lw_kinds.proofs.PassingReads.{at_front}
use Rattle.lw_kinds.specs.Gathering.{ArePlacesBelow}
use Rattle.lw_kinds.proofs.KeptSteps.{keep_next, leave_next}

-- a number above all others goes behind them
ascending_push : (xs : List ℕ) (y : ℕ) → IsStrictlyIncreasing xs → ((x : ℕ) → Contains xs x → x < y) → IsStrictlyIncreasing (xs ++ y ∷ [])
ascending_push xs y ascending above k inside = elim (cases_lt (k + 1) (length xs)) [
  | inl lt ↦
      let here : get_or (xs ++ y ∷ []) k 0 ≡ get_or xs k 0 = get_or_append_left xs (y ∷ []) 0 k (omega (arith, lt)) in
      let next : get_or (xs ++ y ∷ []) (k + 1) 0 ≡ get_or xs (k + 1) 0 = get_or_append_left xs (y ∷ []) 0 (k + 1) lt in
      let less : get_or xs k 0 < get_or xs (k + 1) 0 = ascending k lt in omega (arith, here, next, less)
  | inr past ↦
      let last : length xs ≡ k + 1 = omega (arith, inside, past, length-append xs (y ∷ [])) in
      let here : get_or (xs ++ y ∷ []) k 0 ≡ get_or xs k 0 = get_or_append_left xs (y ∷ []) 0 k (omega (arith, last)) in
      let next : get_or (xs ++ y ∷ []) (k + 1) 0 ≡ y = get_or_push xs y 0 (k + 1) last in
      let less : get_or xs k 0 < y = above (get_or xs k 0) (Contains-get_or xs k 0 (omega (arith, last))) in omega (arith, here, next, less)
]

module _ {X : Type 0} (passes : ℕ → Type 0) (xs : List X) where
  pub places_none : ArePlacesBelow passes xs 0 []
  places_none = record {
    kept = [];
    keeps = keep.nothing;
    items = refl;
    ascending = λ k inside. absurd (omega (arith, inside));
    exact = λ t. (λ (k, inside, is). absurd (omega (arith, inside)), λ (below, does). absurd (omega (arith, below)));
  }

  module _ (i : ℕ) (x : X) (there : slice_get xs i ≡ Some x) (places : List ℕ) (are : ArePlacesBelow passes xs i places) where
    pub places_more : passes i → ArePlacesBelow passes xs (i + 1) (places ++ i ∷ [])
    places_more does = record {
      kept = are.kept ++ x ∷ [];
      keeps = keep_next passes xs are.kept i x there does are.keeps;
      items =
          map-append (slice_get xs) places (i ∷ [])
          ∙ ap₂ (λ a b. a ++ b ∷ []) are.items there
          ∙ sym (map-append (λ (y : X). Some y) are.kept (x ∷ []));
      ascending = ascending_push places i are.ascending (λ t has. ((are.exact t).0 has).0);
      exact = λ t. (forth t, back t);
    }
      where
        forth : (t : ℕ) → Contains (places ++ i ∷ []) t → (t < i + 1) × passes t
        forth t has = elim (Contains-append_cases places (i ∷ []) t has) [
          | inl front ↦ let was = (are.exact t).0 front in (omega (arith, was.0), was.1)
          | inr behind ↦ let same : i ≡ t = every_of (λ z. i ≡ z) (i ∷ []) t (refl, tt) behind in (omega (arith, same), subst passes same does)
        ]

        back : (t : ℕ) → (t < i + 1) × passes t → Contains (places ++ i ∷ []) t
        back t (below, passing) = elim (cases_eq t i) [
          | inl same ↦ subst (Contains (places ++ i ∷ [])) (sym same) (Contains-append_right places (i ∷ []) i (at_front i []))
          | inr differs ↦ Contains-append_left places (i ∷ []) t ((are.exact t).1 (omega (arith, below, differs), passing))
        ]

    pub places_same : ¬ passes i → ArePlacesBelow passes xs (i + 1) places
    places_same lacks = record {
      kept = are.kept;
      keeps = leave_next passes xs are.kept i x there lacks are.keeps;
      items = are.items;
      ascending = are.ascending;
      exact = λ t. (λ has. let was = (are.exact t).0 has in (omega (arith, was.0), was.1), back t);
    }
      where
        back : (t : ℕ) → (t < i + 1) × passes t → Contains places t
        back t (below, passing) = elim (cases_eq t i) [
          | inl same ↦ absurd (lacks (subst passes same passing))
          | inr differs ↦ (are.exact t).1 (omega (arith, below, differs), passing)
        ]
