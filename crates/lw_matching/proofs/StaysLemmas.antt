-- A token stays where no keyword goes on behind the text and the terminals that are asked match the same.
use Rattle.std.proofs.Common.{◌≡◌, ℕ, ◌+◌, ◌-◌, ◌<◌, Bool, true, false, List, ◌++◌, length, Option, Some, None, option_map, slice_get, nat_eq, nat_lt, refl, sym, ap, ◌∙◌, subst, arith, length-append, true≢false, le-ltb, lt-ltb}
use Rattle.std.proofs.lemmas.Bool.{cond-true, cond-false, and_from, not_from_false}
use Rattle.std.proofs.lemmas.List.{drop-append-le, length-map}
use Rattle.std.proofs.lemmas.Option.{slice_get-map, slice_get_within}
use Rattle.std.specs.List.{starts_with}
use Rattle.regex_hir.specs.Text.{has_bytes_at}
use Rattle.lw_base.specs.declared.token.Token.{Token}
use Rattle.lw_tokens.specs.Lexicon.{Lexicon, TerminalForm}
use Rattle.lw_tokens.specs.Matching.{match_length}
use Rattle.lw_tokens.specs.NextToken.{Next, IsNextToken, IsLongest, HasNone, IsFirstOver, NoneOver, Begins, lengths, terminal_token, keyword_token}
use Rattle.lw_tokens.specs.NextToken as next
use Rattle.lw_tokens.specs.Cut as cut
use Rattle.lw_tokens.specs.Cut.{IsCutTo}
use Rattle.lw_matching.proofs.TextLemmas.{has_bytes_at-append, goes_on_behind}
use Rattle.lw_matching.specs.Stays.{is_begun, NoneBegun, asked, FirstStay, TokensStay}

module _ (text more : List ℕ) where
  begins_stays : (keyword : List ℕ) → Begins text keyword → Begins (text ++ more) keyword
  unfolding has_bytes_at
  begins_stays keyword h = has_bytes_at-append text more 0 keyword h

  begins_before : (keyword : List ℕ) → is_begun keyword text ≡ false → Begins (text ++ more) keyword → Begins text keyword
  unfolding has_bytes_at
  begins_before keyword whole h = here (starts_with nat_eq text keyword) refl
    where
      here : (b : Bool) → starts_with nat_eq text keyword ≡ b → starts_with nat_eq text keyword ≡ true
      here true e = e
      here false e = absurd (true≢false (sym (and_from _ _ (goes_on_behind text more 0 keyword e h) (not_from_false _ e)) ∙ whole))

module _ (keywords : List (List ℕ)) (text more : List ℕ) (whole : NoneBegun keywords text) where
  longest_stays : (k n : ℕ) → IsLongest keywords text k n → IsLongest keywords (text ++ more) k n
  longest_stays k n a = record {
    keyword = a.keyword;
    there = a.there;
    begins = begins_stays text more a.keyword a.begins;
    bytes = a.bytes;
    longest = λ j other there begins. a.longest j other there (begins_before text more other (whole j other there) begins);
  }

  none_stays : HasNone keywords text → HasNone keywords (text ++ more)
  none_stays none j keyword there begins = none j keyword there (begins_before text more keyword (whole j keyword there) begins)

module _ (lexicon : Lexicon) (text more : List ℕ) where
  same_length : (n j : ℕ) → FirstStay lexicon text more n → j < n →
      slice_get (lengths lexicon.terminals (text ++ more)) j ≡ slice_get (lengths lexicon.terminals text) j
  same_length n j stay h =
      slice_get-map (λ t. match_length t.pattern (text ++ more)) lexicon.terminals j
      ∙ same (slice_get lexicon.terminals j) (λ form e. stay j form h e)
      ∙ sym (slice_get-map (λ t. match_length t.pattern text) lexicon.terminals j)
    where
      same : (o : Option TerminalForm) → ((form : TerminalForm) → o ≡ Some form → match_length form.pattern (text ++ more) ≡ match_length form.pattern text) →
          option_map (λ t. match_length t.pattern (text ++ more)) o ≡ option_map (λ t. match_length t.pattern text) o
      same None f = refl
      same (Some form) f = ap Some (f form refl)

  first_stays : (n i m : ℕ) → FirstStay lexicon text more (i + 1) → IsFirstOver n (lengths lexicon.terminals text) i m →
      IsFirstOver n (lengths lexicon.terminals (text ++ more)) i m
  first_stays n i m stay a = record {
    there = same_length (i + 1) i stay (omega arith) ∙ a.there;
    longer = a.longer;
    none_before = λ j o before there. a.none_before j o before (sym (same_length (i + 1) j stay (omega arith)) ∙ there);
  }

  none_over_stays : (n : ℕ) → FirstStay lexicon text more (length lexicon.terminals) → NoneOver n (lengths lexicon.terminals text) →
      NoneOver n (lengths lexicon.terminals (text ++ more))
  none_over_stays n stay none j o there =
      let within = slice_get_within (lengths lexicon.terminals (text ++ more)) j (Some o) there in
      let count = length-map lexicon.terminals (λ (t : TerminalForm). match_length t.pattern (text ++ more)) in
      none j o (sym (same_length (length lexicon.terminals) j stay (omega arith)) ∙ there)

  asked_terminal : (i m : ℕ) (form : TerminalForm) → asked lexicon text more (Some (terminal_token lexicon text i m form)) ≡ i + 1
  asked_terminal i m form =
      let count : length lexicon.keywords + i - length lexicon.keywords + 1 ≡ i + 1 = omega arith in
      cond-false (nat_lt (length lexicon.keywords + i) (length lexicon.keywords)) _ _
      (le-ltb (length lexicon.keywords + i) (length lexicon.keywords) (omega arith)) ∙ count

  asked_keyword : (k n : ℕ) → k < length lexicon.keywords → asked lexicon text more (Some (keyword_token lexicon text k n)) ≡ length lexicon.terminals
  asked_keyword k n h = cond-true (nat_lt k (length lexicon.keywords)) _ _ (lt-ltb k (length lexicon.keywords) h)

  pub next_stays : (whole : NoneBegun lexicon.keywords text) → (found : Option Next) → FirstStay lexicon text more (asked lexicon text more found) →
      IsNextToken lexicon text found → IsNextToken lexicon (text ++ more) found
  next_stays whole found stay (next.longer_terminal {k = k} {n = n} {i = i} {m = m} {form = form} longest first there) =
      next.longer_terminal (longest_stays lexicon.keywords text more whole k n longest)
      (first_stays n i m (subst (FirstStay lexicon text more) (asked_terminal i m form) stay) first) there
  next_stays whole found stay (next.keyword {k = k} {n = n} longest none) =
      let within = slice_get_within lexicon.keywords k longest.keyword longest.there in
      next.keyword (longest_stays lexicon.keywords text more whole k n longest)
      (none_over_stays n (subst (FirstStay lexicon text more) (asked_keyword k n within) stay) none)
  next_stays whole found stay (next.terminal {i = i} {m = m} {form = form} no_keyword first there) =
      next.terminal (none_stays lexicon.keywords text more whole no_keyword)
      (first_stays 0 i m (subst (FirstStay lexicon text more) (asked_terminal i m form) stay) first) there
  next_stays whole found stay (next.no_token no_keyword none) =
      next.no_token (none_stays lexicon.keywords text more whole no_keyword) (none_over_stays 0 stay none)

  pub cut_stays : (to : ℕ) (tokens : List Token) → TokensStay lexicon text more to → IsCutTo lexicon text to tokens →
      IsCutTo lexicon (text ++ more) to tokens
  cut_stays to tokens stay cut.start = cut.start
  cut_stays to tokens stay (cut.then {at = at} {tokens = before} {next = following} front inside found) =
      cut.then (cut_stays at before (λ a n le. stay a n (omega arith)) front)
      (omega (arith, length-append text more))
      (subst (λ l. IsNextToken lexicon l (Some following)) (sym (drop-append-le at text more (omega arith)))
      (stay at following (omega arith) inside found))
