-- Texts of one character.
use Rattle.std.proofs.Common.{◌≡◌, ℕ, ◌≤◌, List, [], ◌∷◌, ◌++◌, Some, None, slice_get, encode_utf8, refl, sym, ap, ◌∙◌, subst}
use Rattle.std.specs.Char.{IsScalar}
use Rattle.std.specs.Str.{IsUtf8, chars}
use Rattle.std.proofs.lemmas.List.{append-nil}
use Rattle.std.proofs.lemmas.Option.{none-some}
use Rattle.std.proofs.lemmas.Str.{chars-nil, chars_past_char, IsUtf8-encode}
use Rattle.lw_faults.specs.BadCalls.{IsInOrder}

chars_of_one : (text : List ℕ) (c : ℕ) → IsUtf8 text → text ≡ encode_utf8 c → chars text ≡ c ∷ []
chars_of_one text c utf8 is = chars_past_char text [] c utf8 (is ∙ sym (append-nil (encode_utf8 c))) ∙ ap (λ cs. c ∷ cs) chars-nil

-- where there is no first character
pub not_none : (text : List ℕ) (c : ℕ) → IsUtf8 text → None ≡ slice_get (chars text) 0 → ¬ (text ≡ encode_utf8 c)
not_none text c utf8 none is = none-some c (none ∙ ap (λ cs. slice_get cs 0) (chars_of_one text c utf8 is))

-- where there is a second
pub not_two : (text rest : List ℕ) (first second c : ℕ) → IsUtf8 text → text ≡ encode_utf8 first ++ rest → Some second ≡ slice_get (chars rest) 0 →
    ¬ (text ≡ encode_utf8 c)
not_two text rest first second c utf8 begins more is =
    let same : first ∷ chars rest ≡ c ∷ [] = sym (chars_past_char text rest first utf8 begins) ∙ chars_of_one text c utf8 is in
    let behind : chars rest ≡ [] = cc in
    none-some second (sym (more ∙ ap (λ cs. slice_get cs 0) behind))

one_char : (c d : ℕ) → IsScalar c → encode_utf8 c ≡ encode_utf8 d → d ≡ c
one_char c d scalar same =
    let one : chars (encode_utf8 c) ≡ c ∷ [] = chars_of_one (encode_utf8 c) c (IsUtf8-encode c scalar) refl in
    let other : chars (encode_utf8 c) ≡ d ∷ [] = chars_of_one (encode_utf8 c) d (IsUtf8-encode c scalar) same in
    cc

module _ (first last : List ℕ) (low high : ℕ) (low_is : IsScalar low × (first ≡ encode_utf8 low)) (high_is : IsScalar high × (last ≡ encode_utf8 high)) where
  pub order_of_ends : IsInOrder first last → low ≤ high
  order_of_ends is =
      let P : ℕ → Type 0 = λ n. n ≤ high in
      let Q : ℕ → Type 0 = λ n. is.low ≤ n in
      subst P (one_char low is.low low_is.0 (sym low_is.1 ∙ is.is_first)) (subst Q (one_char high is.high high_is.0 (sym high_is.1 ∙ is.is_last)) is.order)

  pub ends_in_order : low ≤ high → IsInOrder first last
  ends_in_order order = record {
    low = low;
    high = high;
    scalar_low = low_is.0;
    scalar_high = high_is.0;
    is_first = low_is.1;
    is_last = high_is.1;
    order = order;
  }
