-- Fronts: what stands next in each text that begins in a known way.
-- Held against the rules of the next token: it hangs on the whole text, and a front has them hold whatever the text's end is.
use Rattle.std.specs.Prelude.{ℕ, ◌≡◌, ◌<◌, List, ◌∷◌, ◌++◌, All, Bool, true, false, Some}
use Rattle.std.specs.List.{slice_index_or}
use Rattle.lw_tokens.specs.Lexicon.{Lexicon}
use Rattle.lw_tokens.specs.NextToken.{IsNextToken}
use Rattle.lw_lexer.specs.Place.{next_of}
use Rattle.lw_lexer.specs.declared.front.Front.{Front}
use Rattle.lw_lexer.specs.declared.next.Next.{Next}

module _ (lexicon : Lexicon) (text : List ℕ) (next : Next) where
  -- this is the next token of each text that begins with the text and goes on with the byte
  abbrev pub IsEnd : ℕ → Type 0
  IsEnd byte = (more : List ℕ) → All (λ b. b < 256) (text ++ byte ∷ more) → IsNextToken lexicon (text ++ byte ∷ more) (Some (next_of next))

  -- so it is for each byte whose flag is on
  abbrev pub AreEnds : List Bool → Type 0
  AreEnds flags = (byte : ℕ) → slice_index_or flags byte false ≡ true → IsEnd byte

-- the text begins with the front, and a byte comes behind it whose flag is on
pub record BeginsWithFront (front : Front) (text : List ℕ) : Type 0 where
  pub byte : ℕ
  pub more : List ℕ
  pub are : text ≡ front.text ++ byte ∷ more
  pub ends : slice_index_or front.ends byte false ≡ true

-- the front's token is the next of each text that goes on so
abbrev pub IsFront : Lexicon → Front → Type 0
IsFront lexicon front = (text : List ℕ) → BeginsWithFront front text → All (λ b. b < 256) text → IsNextToken lexicon text (Some (next_of front.next))

abbrev pub AreFronts : Lexicon → List (List Front) → Type 0
AreFronts lexicon table = All (All (IsFront lexicon)) table
