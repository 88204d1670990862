-- The first terminal that matches enough, and the token that it and the longest keyword make.
use Rattle.std.proofs.Common.{◌≡◌, ℕ, ◌+◌, ◌<◌, ◌≤◌, List, Option, Some, None, Bool, true, false, nat_lt, if◌then◌else◌, option_map, slice_get, MatchOption, IfSome, ◌∙◌, sym, refl, ap, arith, inl, inr}
use Rattle.std.proofs.lemmas.Bool.{cases_lt}
use Rattle.std.proofs.lemmas.Bool.Decides.{nat_tests}
use Rattle.std.proofs.lemmas.Option.{same_Some, slice_get-map}
use Rattle.lw_tokens.specs.Lexicon.{Lexicon, TerminalForm}
use Rattle.lw_tokens.specs.Matching.{match_length}
use Rattle.lw_tokens.specs.NextToken.{IsNextToken, IsLongest, HasNone, IsFirstOver, NoneOver, lengths, terminal_token, longer_terminal, keyword, terminal, no_token}
use Rattle.lw_tokens.specs.NextToken as token
use Rattle.lw_lexer.specs.declared.next.Next.{Next}
use Rattle.lw_lexer.specs.Place.{next_of}
use Rattle.lw_lexer.specs.Longer.{over, length_or_zero, keyword_next}

le_of_over : (n : ℕ) (o : Option ℕ) (m : ℕ) → over n o ≡ None → o ≡ Some m → m ≤ n
le_of_over n None m e f = absurd cc
le_of_over n (Some k) m e f = by_cases (nat_lt n k) refl
  where
    by_cases : (b : Bool) → nat_lt n k ≡ b → m ≤ n
    by_cases true g = absurd (let x : Some k ≡ None = sym (ap (λ b. if b then Some k else None) g) ∙ e in cc)
    by_cases false g = let same : k ≡ m = cc in grind (arith, nat_tests)

over_some : (n : ℕ) (o : Option ℕ) (m : ℕ) → over n o ≡ Some m → (o ≡ Some m) × (n < m)
over_some n None m e = absurd cc
over_some n (Some k) m e = by_cases (nat_lt n k) refl
  where
    by_cases : (b : Bool) → nat_lt n k ≡ b → (Some k ≡ Some m) × (n < m)
    by_cases true g =
        let same : Some k ≡ Some m = sym (ap (λ b. if b then Some k else None) g) ∙ e in
        let bytes : k ≡ m = same_Some k m same in
        (same, grind (arith, nat_tests, g, bytes))
    by_cases false g = absurd (let x : None ≡ Some m = sym (ap (λ b. if b then Some k else None) g) ∙ e in cc)

-- the first terminal that matches more than n bytes
pub first_over : (terminals : List TerminalForm) (text : List ℕ) (n i : ℕ) (form : TerminalForm) (m : ℕ) → slice_get terminals i ≡ Some form →
    over n (match_length form.pattern text) ≡ Some m →
    ((j o : ℕ) → j < i → slice_get (lengths terminals text) j ≡ Some (Some o) → o ≤ n) → IsFirstOver n (lengths terminals text) i m
first_over terminals text n i form m there over_n before =
    let found = over_some n (match_length form.pattern text) m over_n in
    record {
      there = slice_get-map (λ t. match_length t.pattern text) terminals i ∙ ap (option_map (λ t. match_length t.pattern text)) there ∙ ap Some found.0;
      longer = found.1;
      none_before = before;
    }

-- where the first i terminals match no more than n bytes, and the next does not either, so do the first i + 1
pub none_over_next : (terminals : List TerminalForm) (text : List ℕ) (n i : ℕ) (form : TerminalForm) → slice_get terminals i ≡ Some form →
    over n (match_length form.pattern text) ≡ None →
    ((j o : ℕ) → j < i → slice_get (lengths terminals text) j ≡ Some (Some o) → o ≤ n) →
    (j o : ℕ) → j < i + 1 → slice_get (lengths terminals text) j ≡ Some (Some o) → o ≤ n
none_over_next terminals text n i form there none before j o below at =
    elim (cases_lt j i) [
      | inl lt ↦ before j o lt at
      | inr ge ↦ (let same : j ≡ i = omega arith in
          let here : slice_get (lengths terminals text) i ≡ Some (match_length form.pattern text) =
          slice_get-map (λ t. match_length t.pattern text) terminals i ∙ ap (option_map (λ t. match_length t.pattern text)) there in
          le_of_over n _ o none (same_Some _ _ (sym here ∙ ap (slice_get (lengths terminals text)) (sym same) ∙ at)))
    ]

abbrev pub IsLongestKeyword : Lexicon → List ℕ → Option (ℕ × ℕ) → Type 0
IsLongestKeyword lexicon text found = MatchOption found (HasNone lexicon.keywords text) (λ k. IsLongest lexicon.keywords text k.0 k.1)

-- the terminal that matches more than the longest keyword is the token
pub terminal_is_next : (lexicon : Lexicon) (text : List ℕ) (found : Option (ℕ × ℕ)) (i m : ℕ) (form : TerminalForm) → IsLongestKeyword lexicon text found →
    IsFirstOver (length_or_zero found) (lengths lexicon.terminals text) i m → slice_get lexicon.terminals i ≡ Some form →
    IsNextToken lexicon text (Some (terminal_token lexicon text i m form))
terminal_is_next lexicon text None i m form none first there = terminal none first there
terminal_is_next lexicon text (Some k) i m form longest first there = longer_terminal longest first there

-- where none does, the longest keyword is
pub keyword_is_next : (lexicon : Lexicon) (text : List ℕ) (found : Option (ℕ × ℕ)) → IsLongestKeyword lexicon text found →
    NoneOver (length_or_zero found) (lengths lexicon.terminals text) → IsNextToken lexicon text (option_map keyword_next found)
keyword_is_next lexicon text None none others = no_token none others
keyword_is_next lexicon text (Some k) longest others = keyword longest others

-- the same of the code's token
pub has_bytes : (next : Option Next) (found : Option (ℕ × ℕ)) → option_map next_of next ≡ option_map keyword_next found → IfSome found (λ k. 0 < k.1) →
    IfSome next (λ n. 0 < n.bytes)
has_bytes None found e h = tt
has_bytes (Some next) None e h = absurd cc
has_bytes (Some next) (Some (k, n)) e h = let same : next_of next ≡ keyword_next (k, n) = cc in let bytes : next.bytes ≡ n = ap (λ (t : token.Next). t.bytes) same in rw bytes h
