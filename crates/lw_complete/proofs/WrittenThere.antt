-- A name behind the text before the word: its tokens say the same where they stand in the end of that text and where they stand in the whole of it.
use Rattle.std.proofs.Common.{◌≡◌, ◌≢◌, ◌↔◌, ◌+◌, ◌-◌, ◌<◌, ◌≤◌, ℕ, Bool, true, false, List, [], ◌∷◌, ◌++◌, Some, None, IsTrue, cond, not, drop, take, map, length, slice_get, slice_range, refl, sym, ap, ap₂, ◌∙◌, true≢false, arith}
use Rattle.std.proofs.lemmas.List.{drop-drop, drop_at, length-append}
use Rattle.std.proofs.lemmas.Option.{none-some, slice_get-get_or}
use Rattle.lw_base.specs.declared.token.Span.{Span}
use Rattle.lw_base.specs.declared.token.Token.{Token}
use Rattle.lw_builder.proofs.SpanLemmas.{span_is}
use Rattle.lw_grammar.specs.Kinds.{Kinds}
use Rattle.lw_reading.specs.Brackets.{end_of, joined_texts, span_of_tokens}
use Rattle.lw_lexer.specs.Recut.{added, added_behind}
use Rattle.lw_matching.specs.Parted.{moved}
use Rattle.lw_tokens.specs.Cut.{kinds, visible}
use Rattle.lw_tokens.specs.Lexicon.{Lexicon}
use Rattle.lw_substitution.proofs.Around.{moved_kinds}
use Rattle.lw_complete.specs.declared.typing.Typing.{Typing}
use Rattle.lw_complete.specs.declared.written.Written.{Written}
use Rattle.lw_complete.specs.Starts.{IsWritten, TakesAll}

-- ---- tokens that are moved

moved_visible : (by : ℕ) (ts : List Token) → visible (map (moved by) ts) ≡ map (moved by) (visible ts)
moved_visible by [] = refl
moved_visible by (t ∷ ts) = either t.hidden (moved_visible by ts)
  where
    either : (b : Bool) → visible (map (moved by) ts) ≡ map (moved by) (visible ts) →
        cond (not b) (moved by t ∷ visible (map (moved by) ts)) (visible (map (moved by) ts)) ≡ map (moved by) (cond (not b) (t ∷ visible ts) (visible ts))
    either true same = same
    either false same = ap (λ (us : List Token). moved by t ∷ us) same

slice_moved : (head text : List ℕ) (start end : ℕ) → slice_range (head ++ text) (length head + start) (length head + end) ≡ slice_range text start end
slice_moved head text start end =
    let same : (length head + end) - (length head + start) ≡ end - start = omega arith in
    ap (λ (n : ℕ). take n (drop (length head + start) (head ++ text))) same
    ∙ ap (λ (bytes : List ℕ). take (end - start) bytes)
    (sym (drop-drop start (length head) (head ++ text)) ∙ ap (λ (bytes : List ℕ). drop start bytes) (drop_at head text (length head) refl))

joined_moved : (head text : List ℕ) (ts : List Token) → joined_texts (head ++ text) (map (moved (length head)) ts) ≡ joined_texts text ts
joined_moved head text [] = refl
joined_moved head text (t ∷ ts) =
    ap (λ (bytes : List ℕ). bytes ++ joined_texts (head ++ text) (map (moved (length head)) ts)) (slice_moved head text t.span.start t.span.end)
    ∙ ap (λ (bytes : List ℕ). slice_range text t.span.start t.span.end ++ bytes) (joined_moved head text ts)

end_moved : (by : ℕ) (t : Token) (ts : List Token) → end_of (moved by t) (map (moved by) ts) ≡ by + end_of t ts
end_moved by t [] = refl
end_moved by t (u ∷ us) = end_moved by u us

no_token : (ts : List Token) (i : ℕ) → i ≤ length ts - 1 → None ≡ slice_get ts i → ts ≡ []
no_token [] i inside none = refl
no_token (t ∷ ts) i inside none =
    let within : i < length (t ∷ ts) = omega arith in
    absurd (none-some _ (none ∙ slice_get-get_or (t ∷ ts) i t within))

-- ---- the tokens of the name

module _ (of : Kinds) (lexicon : Lexicon) (typing : Typing) (written : Written) (is : IsWritten of lexicon typing written) where
  abbrev here : List Token
  here = visible (added written.recut.now)

  abbrev there : List Token
  there = visible (added_behind written.recut.now)

  there_are : there ≡ map (moved written.recut.now.from) here
  there_are = moved_visible written.recut.now.from (added written.recut.now)

  pub joined_there : joined_texts (typing.front.now ++ written.name.now) (visible (added_behind written.recut.now))
      ≡ joined_texts written.recut.now.text (visible (added written.recut.now))
  joined_there =
      ap (λ (text : List ℕ). joined_texts text there) is.text
      ∙ ap (λ (ts : List Token). joined_texts (is.head ++ written.recut.now.text) ts) there_are
      ∙ ap (λ (n : ℕ). joined_texts (is.head ++ written.recut.now.text) (map (moved n) here)) (sym is.from)
      ∙ joined_moved is.head written.recut.now.text here

  pub kinds_there : kinds (visible (added_behind written.recut.now)) ≡ kinds (visible (added written.recut.now))
  kinds_there = moved_kinds written.recut.now.from (added written.recut.now)

  -- ---- how long the texts are

  lengths : length typing.front.now + length written.name.now ≡ written.recut.now.from + length written.recut.now.text
  lengths =
      omega (arith, length-append typing.front.now written.name.now, length-append is.head written.recut.now.text, ap length is.text, is.from)

  pub name_within : length written.name.now ≤ length written.recut.now.text
  name_within = omega (arith, lengths, is.within)

  -- ---- whether they take up the name

  abbrev SpansName : List Token → Type 0
  SpansName ts = span_of_tokens ts ≡ record { start = length typing.front.now; end = length typing.front.now + length written.name.now }

  abbrev EndsAt : Token → List Token → Type 0
  EndsAt t ts =
      (t.span.start ≡ length written.recut.now.text - length written.name.now) × (end_of t ts ≡ length written.recut.now.text)

  spans_moved : (t : Token) (ts : List Token) → EndsAt t ts ↔ SpansName (map (moved written.recut.now.from) (t ∷ ts))
  spans_moved t ts = (
    λ (starts, ends). ap₂ (λ (a b : ℕ). let s : Span = record { start = a; end = b } in s) (omega (arith, starts, lengths, name_within))
        (end_moved written.recut.now.from t ts ∙ omega (arith, ends, lengths)),
    λ same. (
        let starts : written.recut.now.from + t.span.start ≡ length typing.front.now = ap (λ (s : Span). s.start) same in
        let ends : written.recut.now.from + end_of t ts ≡ length typing.front.now + length written.name.now =
        sym (end_moved written.recut.now.from t ts) ∙ ap (λ (s : Span). s.end) same in
        (omega (arith, starts, lengths), omega (arith, ends, lengths))
        ),
  )

  cons_is_some : {X : Type 0} {x : X} {xs : List X} → x ∷ xs ≡ [] → ⊥
  cons_is_some is = cc

  taken : (ts : List Token) → ts ≢ [] → there ≡ map (moved written.recut.now.from) ts → (s : Span) → s ≡ span_of_tokens ts →
      ((s.start ≡ length written.recut.now.text - length written.name.now) × (s.end ≡ length written.recut.now.text)) ↔ TakesAll typing written
  taken [] some are s same = absurd (some refl)
  taken (t ∷ ts) some are s same = (
    λ (starts, ends). record {
      some = λ none. cons_is_some (sym are ∙ none);
      spans = ap span_of_tokens are
          ∙ (spans_moved t ts).0 (ap (λ (x : Span). x.start) (sym same) ∙ starts, ap (λ (x : Span). x.end) (sym same) ∙ ends);
    },
    λ (takes : TakesAll typing written). (
        let (starts, ends) = (spans_moved t ts).1 (sym (ap span_of_tokens are) ∙ takes.spans) in
        (ap (λ (x : Span). x.start) same ∙ starts, ap (λ (x : Span). x.end) same ∙ ends)
        ),
  )

  -- by the first and the last of them
  pub takes_name : (tokens : List Token) → tokens ≡ visible (added written.recut.now) → (first last : Token) → slice_get tokens 0 ≡ Some first →
      slice_get tokens (length tokens - 1) ≡ Some last →
      ((first.span.start ≡ length written.recut.now.text - length written.name.now) × (last.span.end ≡ length written.recut.now.text))
      ↔ TakesAll typing written
  takes_name tokens same first last starts ends =
      taken here (λ none. none_there (ap (λ (ts : List Token). slice_get ts 0) (sym none ∙ sym same) ∙ starts)) there_are
      (record { start = first.span.start; end = last.span.end }) (span_is tokens first last starts ends ∙ ap span_of_tokens same)
    where
      none_there : slice_get [] 0 ≡ Some first → ⊥
      none_there is = cc

  -- where there is no first or no last
  pub takes_never : (tokens : List Token) → tokens ≡ visible (added written.recut.now) → (i : ℕ) → i ≤ length tokens - 1 → None ≡ slice_get tokens i →
      IsTrue false ↔ TakesAll typing written
  takes_never tokens same i inside none = (
    λ yes. absurd (true≢false (sym yes)),
    λ (takes : TakesAll typing written). absurd (takes.some (there_are ∙ ap (map (moved written.recut.now.from)) (sym same ∙ no_token tokens i inside none))),
  )
