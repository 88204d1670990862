-- Where tokens stand, and what they say together.
use Rattle.std.proofs.Common.{ℕ, ◌≡◌, ◌+◌, ◌-◌, ◌<◌, ◌≤◌, Some, List, [], ◌∷◌, ◌++◌, length, get_or, take, sym, subst, ap, ◌∙◌, arith, append_assoc, append-nil}
use Rattle.std.proofs.lemmas.List.{take_all, take_more}
use Rattle.std.specs.Prelude.{slice_get, slice_range}
use Rattle.lw_base.specs.declared.token.Span.{Span}
use Rattle.lw_base.specs.declared.token.Token.{Token}
use Rattle.lw_reading.specs.Brackets.{span_of_tokens, end_of, joined_texts}

end_is : (t : Token) (ts : List Token) (last : Token) → slice_get (t ∷ ts) (length ts) ≡ Some last → end_of t ts ≡ last.span.end
end_is t [] last at = let e : t ≡ last = cc in ap (λ (u : Token). u.span.end) e
end_is t (u ∷ us) last at = end_is u us last at

pub span_is : (ts : List Token) (first last : Token) → slice_get ts 0 ≡ Some first → slice_get ts (length ts - 1) ≡ Some last →
    record { start = first.span.start; end = last.span.end } ≡ span_of_tokens ts
span_is [] first last at_first at_last = cc
span_is (t ∷ ts) first last at_first at_last =
    let e : t ≡ first = cc in
    let i : length (t ∷ ts) - 1 ≡ length ts = omega arith in
    let P : ℕ → Type 0 = λ j. slice_get (t ∷ ts) j ≡ Some last in
    let f : end_of t ts ≡ last.span.end = end_is t ts last (subst P i at_last) in
    ap (λ (u : Token). let s : Span = record { start = u.span.start; end = last.span.end } in s) (sym e)
    ∙ ap (λ (n : ℕ). let s : Span = record { start = t.span.start; end = n } in s) (sym f)

pub joined_more : (text : List ℕ) (ts : List Token) (t : Token) → joined_texts text (ts ++ t ∷ []) ≡ joined_texts text ts ++ slice_range text t.span.start t.span.end
joined_more text [] t = append-nil _
joined_more text (u ∷ ts) t =
    let e : (slice_range text u.span.start u.span.end ++ joined_texts text ts) ++ slice_range text t.span.start t.span.end
    ≡ slice_range text u.span.start u.span.end ++ (joined_texts text ts ++ slice_range text t.span.start t.span.end) = simp append_assoc in
    ap (λ l. slice_range text u.span.start u.span.end ++ l) (joined_more text ts t) ∙ sym e

pub joined_step : (text before part after : List ℕ) (ts : List Token) (i : ℕ) (d : Token) → before ≡ joined_texts text (take i ts) →
    part ≡ slice_range text (get_or ts i d).span.start (get_or ts i d).span.end → after ≡ before ++ part → i < length ts → after ≡ joined_texts text (take (i + 1) ts)
joined_step text before part after ts i d is cut step lt =
    step ∙ ap (λ l. l ++ part) is ∙ ap (λ l. joined_texts text (take i ts) ++ l) cut ∙ sym (joined_more text (take i ts) (get_or ts i d))
    ∙ sym (ap (λ l. joined_texts text l) (take_more ts i d lt))

pub joined_all : (text all : List ℕ) (ts : List Token) (i : ℕ) → all ≡ joined_texts text (take i ts) → length ts ≤ i → all ≡ joined_texts text ts
joined_all text all ts i is le = is ∙ ap (λ l. joined_texts text l) (take_all i ts le)
