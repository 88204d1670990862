-- The end of a text, from which it is cut again with more behind it, and what comes of that.
-- Held against the rules of the cut: at each place the next token hangs on the text from there on alone.
use Rattle.std.specs.Prelude.{ℕ, ◌≡◌, ◌<◌, ◌≤◌, ◌+◌, ◌⊎◌, List, ◌++◌, Option, Some, None, All, IfSome, Vec, drop, length, map}
use Rattle.lw_base.specs.declared.limits.TheConstants.{LONGEST_TEXT}
use Rattle.lw_base.specs.declared.token.Token.{Token}
use Rattle.regex_nfa.specs.declared.nfa.Nfa.{Nfa}
use Rattle.std.specs.declared.alloc.Global.{Global}
use Rattle.lw_matching.specs.Nfas.{AreNfas}
use Rattle.lw_lexer.specs.TokenPlaces.{IsTokenPlace}
use Rattle.lw_matching.specs.Parted.{moved}
use Rattle.lw_tokens.specs.Cut.{IsCut, IsCutTo}
use Rattle.lw_tokens.specs.Keywords.{AreKeywords}
use Rattle.lw_tokens.specs.Lexicon.{Lexicon}
use Rattle.lw_tokens.specs.NextToken.{Next, IsNextToken}
use Rattle.lw_lexer.specs.declared.recut.recut.Recut.{Recut}

-- what cuts again: by what, the end of a text and its own tokens, and where it begins
pub record RecutterParts : Type 0 where
  pub lexicon : Lexicon
  pub text : List ℕ
  pub tokens : List Token
  pub from : ℕ

-- the keywords are those of the lexicon and can be told apart, and the automata, if any, are those of its terminals
pub record IsReady (lexicon : Lexicon) (keywords : List (List ℕ)) (nfas : Option (Vec Nfa Global)) : Type 0 where
  pub same : keywords ≡ lexicon.keywords
  pub apart : AreKeywords lexicon.keywords
  pub automata : IfSome nfas (λ found. AreNfas lexicon.terminals found.items)

-- a text that has these tokens ends so, and those before stand whatever follows
pub record IsEndOf (parts : RecutterParts) (front : List ℕ) (tokens : List Token) : Type 0 where
  pub bytes : All (λ b. b < 256) front
  pub within : parts.from ≤ length front
  pub text : drop parts.from front ≡ parts.text
  pub first : List Token
  pub are : tokens ≡ first ++ map (moved parts.from) parts.tokens
  pub stand : (more : List ℕ) → All (λ b. b < 256) more → IsCutTo parts.lexicon (front ++ more) parts.from first

-- the first of the tokens end at this place, and stand whatever follows the text
pub record IsSurePlace (lexicon : Lexicon) (front : List ℕ) (tokens : List Token) (place : ℕ) : Type 0 where
  pub first : List Token
  pub others : List Token
  pub are : tokens ≡ first ++ others
  pub stand : (more : List ℕ) → All (λ b. b < 256) (front ++ more) → IsCutTo lexicon (front ++ more) place first

-- the tokens that are added, as they stand in the end of the text with more behind
abbrev pub added : Recut → List Token
added it = drop it.tail it.tokens.items

-- and as they stand behind the whole text
abbrev pub added_behind : Recut → List Token
added_behind it = map (moved it.from) (added it)

-- the end with more behind, and its tokens, the first of which are those of the end
pub record IsRecut (parts : RecutterParts) (more : List ℕ) (it : Recut) : Type 0 where
  pub from : it.from ≡ parts.from
  pub text : it.text ≡ parts.text ++ more
  pub short : length it.text ≤ LONGEST_TEXT
  pub tail : it.tail ≡ length parts.tokens
  pub are : it.tokens.items ≡ parts.tokens ++ added it
  pub cut : IsCut parts.lexicon it.text it.tokens.items
  pub places : All (IsTokenPlace it.text) it.tokens.items

-- no token of a cut of the text ends at this place: one stands across it, or at a place before it none stands
pub record IsCrossed (lexicon : Lexicon) (text : List ℕ) (place : ℕ) : Type 0 where
  pub at : ℕ
  pub tokens : List Token
  pub cut : IsCutTo lexicon text at tokens
  pub before : at < place
  pub found : Option Next
  pub is_next : IsNextToken lexicon (drop at text) found
  pub crosses : (found ≡ None) ⊎ ((next : Next) × (found ≡ Some next) × (place < at + next.bytes))

-- what stands next at the start of the text stays next, by these keywords and the terminals of these automata
abbrev pub StaysNext : List (List ℕ) → List Nfa → List ℕ → Option Next → Type 0
StaysNext keywords nfas text found = (lexicon : Lexicon) → lexicon.keywords ≡ keywords → AreNfas lexicon.terminals nfas → IsNextToken lexicon text found →
    (more : List ℕ) → All (λ b. b < 256) (text ++ more) → IsNextToken lexicon (text ++ more) found
