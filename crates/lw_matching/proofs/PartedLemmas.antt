-- A cut ends in its text, is made of the cuts of two parts of the text, and is parted at each of its places.
use Rattle.std.proofs.Common.{◌≡◌, ℕ, ◌+◌, ◌<◌, ◌≤◌, ◌==◌, Bool, true, false, List, [], ◌∷◌, ◌++◌, length, drop, map, Option, Some, None, IfSome, option_and_then, option_map, slice_get, if◌then◌else◌, ◌⊎◌, inl, inr, refl, sym, ap, ap₂, ◌∙◌, subst, arith, length-append, length-drop, drop-drop, append-nil, append_assoc}
use Rattle.std.proofs.lemmas.Bool.Decides.{Decides-eqb}
use Rattle.std.proofs.lemmas.List.{map-append}
use Rattle.std.proofs.lemmas.Option.{same_Some, slice_get-map}
use Rattle.std.proofs.lemmas.Slice.Eq.{starts_is}
use Rattle.regex.specs.Patterns.{Re, Match, find_str}
use Rattle.regex.proofs.SearchLemmas.{leftmost_within}
use Rattle.lw_base.specs.declared.token.Token.{Token}
use Rattle.lw_tokens.specs.Keywords.{AreKeywords}
use Rattle.lw_tokens.specs.Lexicon.{Lexicon, TerminalForm}
use Rattle.lw_tokens.specs.Matching.{match_length, match_at_start, length_at_start}
use Rattle.lw_tokens.specs.NextToken.{Next, IsNextToken, Begins, IsFirstOver, lengths}
use Rattle.lw_tokens.specs.NextToken as next
use Rattle.lw_tokens.specs.Cut as cut
use Rattle.lw_tokens.specs.Cut.{IsCut, IsCutTo, token_at}
use Rattle.lw_tokens.proofs.OneCut.{one_next}
use Rattle.lw_matching.specs.Parted.{IsParted, moved}

-- ---- a cut ends in its text

start_within : (text : List ℕ) (m : Match) (n : ℕ) → m.trace.end ≤ length text → length_at_start m ≡ Some n → n ≤ length text
start_within text m n fits e = by_cases (m.start == 0) e
  where
    by_cases : (b : Bool) → (if b then Some m.trace.end else None) ≡ Some n → n ≤ length text
    by_cases true is = subst (λ x. x ≤ length text) (same_Some m.trace.end n is) fits
    by_cases false is = absurd cc

matched_within : (o : Option Match) (text : List ℕ) (n : ℕ) → ((m : Match) → o ≡ Some m → m.trace.end ≤ length text) →
    option_and_then length_at_start o ≡ Some n → n ≤ length text
matched_within None text n fits e = absurd cc
matched_within (Some m) text n fits e = start_within text m n (fits m refl) e

pattern_within : (o : Option Re) (text : List ℕ) (n : ℕ) → option_and_then (λ re. match_at_start re text) o ≡ Some n → n ≤ length text
pattern_within None text n e = absurd cc
pattern_within (Some re) text n e = matched_within (find_str re text 0) text n (λ m is. (leftmost_within re text true 0 m is).2) e

length_within : (pattern text : List ℕ) (n : ℕ) → match_length pattern text ≡ Some n → n ≤ length text
unfolding match_length
length_within pattern text n e = pattern_within _ text n e

keyword_within : (text keyword : List ℕ) → Begins text keyword → length keyword ≤ length text
keyword_within text keyword h =
    let parts : text ≡ keyword ++ drop (length keyword) text = (starts_is Decides-eqb text keyword _ refl).0 h in
    omega (arith, ap length parts, length-append keyword (drop (length keyword) text))

terminal_within : (text : List ℕ) (o : Option TerminalForm) (m : ℕ) → option_map (λ t. match_length t.pattern text) o ≡ Some (Some m) →
    m ≤ length text
terminal_within text None m e = absurd cc
terminal_within text (Some form) m e = length_within form.pattern text m (same_Some (match_length form.pattern text) (Some m) e)

first_within : (terminals : List TerminalForm) (text : List ℕ) (n i m : ℕ) → IsFirstOver n (lengths terminals text) i m → m ≤ length text
first_within terminals text n i m first =
    terminal_within text (slice_get terminals i) m (sym (slice_get-map (λ t. match_length t.pattern text) terminals i) ∙ first.there)

next_within : (lexicon : Lexicon) (text : List ℕ) (found : Option Next) → IsNextToken lexicon text found →
    IfSome found (λ next. next.bytes ≤ length text)
next_within lexicon text found (next.longer_terminal {n = n} {i = i} {m = m} longest first there) = first_within lexicon.terminals text n i m first
next_within lexicon text found (next.keyword longest none) = omega (arith, longest.bytes, keyword_within text longest.keyword longest.begins)
next_within lexicon text found (next.terminal {i = i} {m = m} no_keyword first there) = first_within lexicon.terminals text 0 i m first
next_within lexicon text found (next.no_token no_keyword none) = tt

pub cut_within : (lexicon : Lexicon) (text : List ℕ) (to : ℕ) (tokens : List Token) → IsCutTo lexicon text to tokens → to ≤ length text
cut_within lexicon text to tokens cut.start = omega arith
cut_within lexicon text to tokens (cut.then {at = at} {next = following} front inside found) =
    let fits = next_within lexicon (drop at text) (Some following) found in
    omega (arith, fits, inside, length-drop at text)

-- ---- tokens that are moved

not_moved : (ts : List Token) → map (moved 0) ts ≡ ts
not_moved [] = refl
not_moved (t ∷ ts) =
    let starts : 0 + t.span.start ≡ t.span.start = omega arith in
    let ends : 0 + t.span.end ≡ t.span.end = omega arith in
    ap₂ (λ x l. x ∷ l) (ap₂ (λ s e. record t { span = record { start = s; end = e } }) starts ends) (not_moved ts)

moved_twice : (a b : ℕ) (ts : List Token) → map (moved a) (map (moved b) ts) ≡ map (moved (a + b)) ts
moved_twice a b [] = refl
moved_twice a b (t ∷ ts) =
    let starts : a + (b + t.span.start) ≡ a + b + t.span.start = omega arith in
    let ends : a + (b + t.span.end) ≡ a + b + t.span.end = omega arith in
    ap₂ (λ x l. x ∷ l) (ap₂ (λ s e. record t { span = record { start = s; end = e } }) starts ends) (moved_twice a b ts)

moved_to_place : (by at : ℕ) (following : Next) → token_at (by + at) following ≡ moved by (token_at at following)
moved_to_place by at following =
    let ends : by + at + following.bytes ≡ by + (at + following.bytes) = omega arith in
    ap (λ e. record { kind = record { 0 = following.kind }; span = record { start = by + at; end = e }; hidden = following.hidden }) ends

moved_from_start : (at : ℕ) (following : Next) → moved at (token_at 0 following) ≡ token_at at following
moved_from_start at following =
    let here : at + 0 ≡ at = omega arith in
    sym (moved_to_place at 0 following) ∙ ap (λ k. token_at k following) here

-- one token more of the part behind
moved_more : (by at : ℕ) (following : Next) (ts : List Token) →
    map (moved by) ts ++ token_at (by + at) following ∷ [] ≡ map (moved by) (ts ++ token_at at following ∷ [])
moved_more by at following ts =
    ap (λ t. map (moved by) ts ++ t ∷ []) (moved_to_place by at following) ∙ sym (map-append (moved by) ts (token_at at following ∷ []))

-- ---- the cuts of two parts make one

module _ (lexicon : Lexicon) (text : List ℕ) (to : ℕ) (tokens : List Token) (front : IsCutTo lexicon text to tokens) where
  pub cut_joins : (n : ℕ) (others : List Token) → IsCutTo lexicon (drop to text) n others →
      IsCutTo lexicon text (to + n) (tokens ++ map (moved to) others)
  cut_joins n others cut.start =
      let same : to ≡ to + 0 = omega arith in
      subst (λ x. IsCutTo lexicon text x (tokens ++ [])) same (subst (IsCutTo lexicon text to) (sym (append-nil tokens)) front)
  cut_joins n others (cut.then {at = at} {tokens = before} {next = following} later inside found) =
      let next_there = subst (λ l. IsNextToken lexicon l (Some following)) (drop-drop at to text) found in
      let further = cut.then (cut_joins at before later) (omega (arith, length-drop to text)) next_there in
      let ends : to + at + following.bytes ≡ to + (at + following.bytes) = omega arith in
      let list = append_assoc tokens (map (moved to) before) (token_at (to + at) following ∷ [])
      ∙ ap (λ l. tokens ++ l) (moved_more to at following before) in
      subst (λ l. IsCutTo lexicon text (to + (at + following.bytes)) l) list
      (subst (λ x. IsCutTo lexicon text x ((tokens ++ map (moved to) before) ++ token_at (to + at) following ∷ [])) ends further)

  pub whole_cut : (others : List Token) → IsCut lexicon (drop to text) others → IsCut lexicon text (tokens ++ map (moved to) others)
  whole_cut others later =
      let within = cut_within lexicon text to tokens front in
      let ends : to + length (drop to text) ≡ length text = omega (arith, within, length-drop to text) in
      subst (λ x. IsCutTo lexicon text x (tokens ++ map (moved to) others)) ends (cut_joins (length (drop to text)) others later)

-- ---- a cut is parted at each of its places

-- the first token of a cut, and the cut behind it
record FirstParted (lexicon : Lexicon) (text : List ℕ) (n : ℕ) (tokens : List Token) : Type 0 where
  next : Next
  rest : ℕ
  others : List Token
  found : IsNextToken lexicon text (Some next)
  cut : IsCutTo lexicon (drop next.bytes text) rest others
  ends : n ≡ next.bytes + rest
  are : tokens ≡ token_at 0 next ∷ map (moved next.bytes) others

first_more : (lexicon : Lexicon) (text : List ℕ) (at : ℕ) (before : List Token) (following : Next) →
    FirstParted lexicon text at before → at < length text → IsNextToken lexicon (drop at text) (Some following) →
    FirstParted lexicon text (at + following.bytes) (before ++ token_at at following ∷ [])
first_more lexicon text at before following first inside found = record {
  next = first.next;
  rest = first.rest + following.bytes;
  others = first.others ++ token_at first.rest following ∷ [];
  found = first.found;
  cut = cut.then first.cut (omega (arith, inside, first.ends, length-drop first.next.bytes text))
      (subst (λ l. IsNextToken lexicon l (Some following))
      (ap (λ k. drop k text) first.ends ∙ sym (drop-drop first.rest first.next.bytes text)) found);
  ends = omega (arith, first.ends);
  are = ap (λ l. l ++ token_at at following ∷ []) first.are
      ∙ ap (λ l. token_at 0 first.next ∷ l) (ap (λ k. map (moved first.next.bytes) first.others ++ token_at k following ∷ []) first.ends
      ∙ moved_more first.next.bytes first.rest following first.others);
}

first_parted : (lexicon : Lexicon) (text : List ℕ) (n : ℕ) (tokens : List Token) → IsCutTo lexicon text n tokens →
    ((n ≡ 0) × (tokens ≡ [])) ⊎ FirstParted lexicon text n tokens
first_parted lexicon text n tokens cut.start = inl (refl, refl)
first_parted lexicon text n tokens (cut.then {at = at} {tokens = before} {next = following} front inside found) =
    inr (elim (first_parted lexicon text at before front) [
      | inl none ↦ record {
        next = following;
        rest = 0;
        others = [];
        found = subst (λ k. IsNextToken lexicon (drop k text) (Some following)) none.0 found;
        cut = cut.start;
        ends = omega (arith, none.0);
        are = ap (λ l. l ++ token_at at following ∷ []) none.1 ∙ ap (λ k. token_at k following ∷ []) none.0;
      }
      | inr first ↦ first_more lexicon text at before following first inside found
    ])

parted_more : (lexicon : Lexicon) (text : List ℕ) (at : ℕ) (before all : List Token) (following : Next) → at < length text →
    (behind : IsParted lexicon text at before all) → (first : FirstParted lexicon (drop at text) (length (drop at text)) behind.others) →
    first.next ≡ following →
    IsParted lexicon text (at + following.bytes) (before ++ token_at at following ∷ []) all
parted_more lexicon text at before all following inside behind first same =
    let bytes : first.next.bytes ≡ following.bytes = ap (λ (x : Next). x.bytes) same in
    let left = drop-drop first.next.bytes at text ∙ ap (λ k. drop (at + k) text) bytes in
    let ends : first.rest ≡ length (drop (at + following.bytes) text) =
    omega (arith, first.ends, bytes, length-drop at text, length-drop (at + following.bytes) text) in
    record {
      others = first.others;
      cut = subst (λ k. IsCutTo lexicon (drop (at + following.bytes) text) k first.others) ends
          (subst (λ l. IsCutTo lexicon l first.rest first.others) left first.cut);
      all_are = behind.all_are ∙ ap (λ l. before ++ map (moved at) l) first.are
          ∙ ap₂ (λ t l. before ++ t ∷ l) (moved_from_start at first.next ∙ ap (token_at at) same)
          (moved_twice at first.next.bytes first.others ∙ ap (λ k. map (moved (at + k)) first.others) bytes)
          ∙ sym (append_assoc before (token_at at following ∷ []) (map (moved (at + following.bytes)) first.others));
    }

pub cut_parted : (lexicon : Lexicon) → AreKeywords lexicon.keywords → (text : List ℕ) (to : ℕ) (tokens all : List Token) →
    IsCutTo lexicon text to tokens → IsCut lexicon text all → IsParted lexicon text to tokens all
cut_parted lexicon apart text to tokens all cut.start is = record { others = all; cut = is; all_are = sym (not_moved all) }
cut_parted lexicon apart text to tokens all (cut.then {at = at} {tokens = before} {next = following} front inside found) is =
    let behind = cut_parted lexicon apart text at before all front is in
    elim (first_parted lexicon (drop at text) (length (drop at text)) behind.others behind.cut) [
      | inl none ↦ absurd (omega (arith, none.0, inside, length-drop at text))
      | inr first ↦ parted_more lexicon text at before all following inside behind first
          (same_Some first.next following (one_next lexicon apart (drop at text) (Some first.next) (Some following) first.found found))
    ]
