-- The token at the start of a text, by five rules:
-- 1. K is the longest keyword that the text begins with.
-- 2. A terminal matches where its pattern matches at least one byte at the start of the text.
-- 3. Where there is a K, the first terminal whose match is longer than K is the token, and where there is none, K is.
-- 4. Where there is no K, the first terminal that matches is the token, whether or not another reads more.
-- 5. Where nothing applies, no token stands here.
use Rattle.std.specs.Prelude.{ℕ, ◌≡◌, ◌+◌, ◌<◌, ◌≤◌, List, Option, Some, None, Bool, true, false, map, length, slice_get, nat_eq}
use Rattle.std.specs.List.{starts_with}
use Rattle.lw_tokens.specs.Lexicon.{Lexicon, TerminalForm}
use Rattle.lw_tokens.specs.Matching.{match_length}

-- a token's kind, how many bytes it takes, and whether the parser skips it
pub record Next : Type 0 where
  pub kind : ℕ
  pub bytes : ℕ
  pub hidden : Bool

-- the text begins with the keyword
abbrev pub Begins : List ℕ → List ℕ → Type 0
Begins text keyword = starts_with nat_eq text keyword ≡ true

-- the keyword at the place k is the longest that the text begins with, and takes n bytes
pub record IsLongest (keywords : List (List ℕ)) (text : List ℕ) (k n : ℕ) : Type 0 where
  pub keyword : List ℕ
  pub there : slice_get keywords k ≡ Some keyword
  pub begins : Begins text keyword
  pub bytes : length keyword ≡ n
  pub longest : (j : ℕ) (other : List ℕ) → slice_get keywords j ≡ Some other → Begins text other → length other ≤ n

abbrev pub HasNone : List (List ℕ) → List ℕ → Type 0
HasNone keywords text = (j : ℕ) (keyword : List ℕ) → slice_get keywords j ≡ Some keyword → ¬ Begins text keyword

-- how many bytes each terminal matches at the start of the text
abbrev pub lengths : List TerminalForm → List ℕ → List (Option ℕ)
lengths terminals text = map (λ t. match_length t.pattern text) terminals

-- the terminal at the place i is the first whose match takes more than n bytes: it takes m
pub record IsFirstOver (n : ℕ) (matches : List (Option ℕ)) (i m : ℕ) : Type 0 where
  pub there : slice_get matches i ≡ Some (Some m)
  pub longer : n < m
  pub none_before : (j o : ℕ) → j < i → slice_get matches j ≡ Some (Some o) → o ≤ n

abbrev pub NoneOver : ℕ → List (Option ℕ) → Type 0
NoneOver n matches = (j o : ℕ) → slice_get matches j ≡ Some (Some o) → o ≤ n

module _ (lexicon : Lexicon) (text : List ℕ) where
  -- terminals come after the keywords in the order of kinds
  abbrev pub terminal_token : ℕ → ℕ → TerminalForm → Next
  terminal_token i m form = record { kind = length lexicon.keywords + i; bytes = m; hidden = form.hidden }

  abbrev pub keyword_token : ℕ → ℕ → Next
  keyword_token k n = record { kind = k; bytes = n; hidden = false }

  pub data IsNextToken : Option Next → Type 0 where
    longer_terminal : {k n i m : ℕ} {form : TerminalForm} → IsLongest lexicon.keywords text k n → IsFirstOver n (lengths lexicon.terminals text) i m →
        slice_get lexicon.terminals i ≡ Some form → IsNextToken (Some (terminal_token i m form))
    keyword : {k n : ℕ} → IsLongest lexicon.keywords text k n → NoneOver n (lengths lexicon.terminals text) → IsNextToken (Some (keyword_token k n))
    terminal : {i m : ℕ} {form : TerminalForm} → HasNone lexicon.keywords text → IsFirstOver 0 (lengths lexicon.terminals text) i m →
        slice_get lexicon.terminals i ≡ Some form → IsNextToken (Some (terminal_token i m form))
    no_token : HasNone lexicon.keywords text → NoneOver 0 (lengths lexicon.terminals text) → IsNextToken None
