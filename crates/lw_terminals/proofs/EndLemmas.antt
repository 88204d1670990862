-- Texts of one character, and ranges between two.
use Rattle.std.proofs.Common.{◌≡◌, ℕ, ◌≤◌, List, [], ◌∷◌, ◌++◌, Some, None, slice_get, encode_utf8, sym, ap, ◌∙◌, subst}
use Rattle.std.specs.Str.{IsUtf8, chars}
use Rattle.std.proofs.lemmas.Option.{none-some}
use Rattle.std.proofs.lemmas.Str.{chars_past_char}
use Rattle.lw_terminals.specs.Readiness.{HasEnds}

-- where there is no first character
pub not_none : (cs : List ℕ) (c : ℕ) → None ≡ slice_get cs 0 → ¬ (cs ≡ c ∷ [])
not_none cs c none is = none-some c (none ∙ ap (λ xs. slice_get xs 0) is)

-- where there is a second
pub not_two : (text rest : List ℕ) (first second c : ℕ) → IsUtf8 text → text ≡ encode_utf8 first ++ rest → Some second ≡ slice_get (chars rest) 0 →
    ¬ (chars text ≡ c ∷ [])
not_two text rest first second c utf8 begins more is =
    let same : first ∷ chars rest ≡ c ∷ [] = sym (chars_past_char text rest first utf8 begins) ∙ is in
    let behind : chars rest ≡ [] = cc in
    none-some second (sym (more ∙ ap (λ cs. slice_get cs 0) behind))

-- where there is one, and no second
pub just_one : (text rest : List ℕ) (first : ℕ) → IsUtf8 text → text ≡ encode_utf8 first ++ rest → None ≡ slice_get (chars rest) 0 → chars text ≡ first ∷ []
just_one text rest first utf8 begins none = chars_past_char text rest first utf8 begins ∙ ap (λ cs. first ∷ cs) (empty (chars rest) none)
  where
    empty : (cs : List ℕ) → None ≡ slice_get cs 0 → cs ≡ []
    empty [] none = λ i. []
    empty (c ∷ cs) none = absurd (none-some c none)

module _ (from to : List ℕ) (first last : ℕ) (from_is : chars from ≡ first ∷ []) (to_is : chars to ≡ last ∷ []) where
  pub order_of_ends : HasEnds from to → first ≤ last
  order_of_ends ends =
      let low : ends.first ≡ first = let e = sym ends.from_is ∙ from_is in cc in
      let high : ends.last ≡ last = let e = sym ends.to_is ∙ to_is in cc in
      let P : ℕ → Type 0 = λ n. n ≤ last in
      let Q : ℕ → Type 0 = λ n. ends.first ≤ n in
      subst P low (subst Q high ends.order)

  pub ends_in_order : first ≤ last → HasEnds from to
  ends_in_order order = record { first = first; last = last; from_is = from_is; to_is = to_is; order = order }
