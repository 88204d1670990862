-- When a token stays the next where more follows the text, and when the tokens of a cut do.
-- Held against the five rules of the next token: it hangs on the keywords that the text begins with, and on what the terminals match there,
-- in order.
use Rattle.std.specs.Prelude.{◌≡◌, ℕ, ◌+◌, ◌-◌, ◌<◌, ◌≤◌, ◌++◌, List, length, drop, Option, Some, None, Bool, false, not, ◌&&◌, if◌then◌else◌, nat_eq, nat_lt, slice_get}
use Rattle.std.specs.List.{starts_with}
use Rattle.lw_tokens.specs.Lexicon.{Lexicon, TerminalForm}
use Rattle.lw_tokens.specs.Matching.{match_length}
use Rattle.lw_tokens.specs.NextToken.{Next, IsNextToken}

-- the keyword begins with the whole text, and goes on behind it
abbrev pub is_begun : List ℕ → List ℕ → Bool
is_begun keyword text = starts_with nat_eq keyword text && not (starts_with nat_eq text keyword)

-- no keyword goes on behind the text
abbrev pub NoneBegun : List (List ℕ) → List ℕ → Type 0
NoneBegun keywords text = (j : ℕ) (keyword : List ℕ) → slice_get keywords j ≡ Some keyword → is_begun keyword text ≡ false

module _ (lexicon : Lexicon) (text more : List ℕ) where
  -- how many terminals are asked for this answer: those up to the terminal that is the token, else all
  abbrev pub asked : Option Next → ℕ
  asked None = length lexicon.terminals
  asked (Some next) =
      if nat_lt next.kind (length lexicon.keywords) then length lexicon.terminals else next.kind - length lexicon.keywords + 1

  -- each of the first n terminals matches the same where more follows
  abbrev pub FirstStay : ℕ → Type 0
  FirstStay n = (j : ℕ) (form : TerminalForm) → j < n → slice_get lexicon.terminals j ≡ Some form →
      match_length form.pattern (text ++ more) ≡ match_length form.pattern text

-- each token that ends by this place stays where more follows the text
abbrev pub TokensStay : Lexicon → List ℕ → List ℕ → ℕ → Type 0
TokensStay lexicon text more to = (at : ℕ) (next : Next) → at + next.bytes ≤ to → at < length text →
    IsNextToken lexicon (drop at text) (Some next) → IsNextToken lexicon (drop at text ++ more) (Some next)
