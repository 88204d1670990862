-- What a text reads as by a grammar: whole, with its tree, or broken at the first fault.
-- The size, the tokens and the sentence are looked at in this order, and one fault is told.
-- Held against the Langium documentation, "Grammar language" and "Semantic model".
use Rattle.std.specs.Prelude.{ℕ, ◌≡◌, ◌<◌, ◌≤◌, ◌⊎◌, List, [], ◌∷◌, ◌++◌, length}
use Rattle.lw_base.specs.declared.limits.TheConstants.{LONGEST_DOCUMENT}
use Rattle.lw_base.specs.declared.token.Span.{Span}
use Rattle.lw_base.specs.declared.token.Token.{Token}
use Rattle.lw_grammar.specs.declared.grammar.Grammar.{Grammar}
use Rattle.lw_grammar.specs.Kinds.{Kinds, AreKinds}
use Rattle.lw_grammar.specs.Marks.{Mark, kinds_of}
use Rattle.lw_grammar.specs.Sentences.{IsSentence, IsWhole, Starts}
use Rattle.lw_tokens.specs.Lexicon.{Lexicon, IsLexicon}
use Rattle.lw_tokens.specs.Cut.{IsCut, HasNoTokenAt, IsCharacterAt, visible, kinds}
use Rattle.lw_tree.specs.declared.issue.Issue.TheVariants.{Lexical, Syntax, End, TooLarge}
use Rattle.lw_tree.specs.Parts.{Parts}
use Rattle.lw_reading.specs.Trees.{IsTree}
use Rattle.lw_reading.specs.declared.parsed.Parsed.{Parsed}
use Rattle.lw_reading.specs.declared.parsed.Parsed.TheVariants.{Whole, Broken}

module _ (g : Grammar) (of : Kinds) where
  -- `unexpected` is the first of the tokens that no sentence has after those before it
  pub record IsFirstUnexpected (tokens : List Token) (unexpected : Token) : Type 0 where
    pub before : List Token
    pub after : List Token
    pub parts : tokens ≡ before ++ unexpected ∷ after
    pub follows : (before ≡ []) ⊎ Starts g of (kinds before)
    pub cannot : ¬ Starts g of (kinds (before ++ unexpected ∷ []))

  -- every token can stand, and yet the whole is no sentence
  pub record EndsEarly (tokens : List Token) : Type 0 where
    pub follows : (tokens ≡ []) ⊎ Starts g of (kinds tokens)
    pub not_whole : ¬ IsWhole g of (kinds tokens)

  module _ (lexicon : Lexicon) (text : List ℕ) where
    -- what a text that is not too long reads as, by the kinds and the lexicon of the grammar
    pub data ReadsBy : Parsed → Type 0 where
      lexical : (s : Span) → HasNoTokenAt lexicon text s.start → IsCharacterAt text s → ReadsBy (Broken (Lexical s))
      whole : {tree : Parts} (tokens : List Token) (m : List Mark) → IsCut lexicon text tokens → IsSentence g of m →
          kinds_of m ≡ kinds (visible tokens) → IsTree g text m (visible tokens) tokens tree → ReadsBy (Whole tree)
      syntax_ : (tokens : List Token) (t : Token) → IsCut lexicon text tokens → IsFirstUnexpected (visible tokens) t → ReadsBy (Broken (Syntax t.span t.kind))
      end_ : (tokens : List Token) → IsCut lexicon text tokens → EndsEarly (visible tokens) → ReadsBy (Broken (End (length text)))

-- what a text reads as
pub data Reads (g : Grammar) (text : List ℕ) : Parsed → Type 0 where
  too_large : LONGEST_DOCUMENT < length text → Reads g text (Broken TooLarge)
  read : {parsed : Parsed} (of : Kinds) (lexicon : Lexicon) → length text ≤ LONGEST_DOCUMENT → AreKinds g of → IsLexicon g of lexicon →
      ReadsBy g of lexicon text parsed → Reads g text parsed
