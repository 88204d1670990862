-- What a list of tokens reads as: the tree of the only sentence with the kinds of the visible ones, or the first fault.
-- Held against the textbooks' correct-prefix property: the fault is at the first token that no sentence has after those before it.
use Rattle.std.specs.Prelude.{⊤, ℕ, ◌≡◌, ◌⊎◌, List, [], ◌∷◌, ◌++◌, Some, false, map, take, slice_get}
use Rattle.lw_base.specs.declared.token.Token.{Token}
use Rattle.lw_grammar.specs.declared.grammar.Grammar.{Grammar}
use Rattle.lw_grammar.specs.Kinds.{Kinds}
use Rattle.lw_grammar.specs.Marks.{Mark, kinds_of}
use Rattle.lw_grammar.specs.Sentences.{IsSentence, IsWhole, Starts}
use Rattle.lw_tree.specs.Parts.{Parts}
use Rattle.lw_reading.specs.Trees.{IsTree}
use Rattle.lw_builder.specs.Built.{visible_of}
use Rattle.lw_parse.specs.declared.fault.ParseFault.{ParseFault}
use Rattle.lw_parse.specs.declared.fault.ParseFault.TheVariants.{Unexpected, UnexpectedEnd, NoMemory}

-- the kinds of the tokens that are not hidden
abbrev pub kinds_seen : List Token → List ℕ
kinds_seen tokens = map (λ t. t.kind.0) (visible_of tokens)

module _ (g : Grammar) (kinds : Kinds) where
  -- the marks are a sentence with these kinds, and no other sentence has them
  pub record IsOnlySentence (ks : List ℕ) (m : List Mark) : Type 0 where
    pub sentence : IsSentence g kinds m
    pub kinds_are : kinds_of m ≡ ks
    pub only : (other : List Mark) → IsSentence g kinds other → kinds_of other ≡ ks → other ≡ m

  -- the tree of the only sentence that the visible tokens are
  pub record IsOnlyTree (text : List ℕ) (tokens : List Token) (parts : Parts) : Type 0 where
    pub marks : List Mark
    pub one : IsOnlySentence (kinds_seen tokens) marks
    pub tree : IsTree g text marks (visible_of tokens) tokens parts

  -- a sentence begins with the visible ones of these tokens, where there are any
  abbrev pub CanStand : List Token → Type 0
  CanStand tokens = (visible_of tokens ≡ []) ⊎ Starts g kinds (kinds_seen tokens)

  -- this token, which has this number, counted from 0 over all, is visible, and is the first that no sentence has after those before it
  pub record IsFirstImpossible (tokens : List Token) (number : ℕ) (token : Token) : Type 0 where
    pub there : slice_get tokens number ≡ Some token
    pub shown : token.hidden ≡ false
    pub follows : CanStand (take number tokens)
    pub cannot : ¬ Starts g kinds (kinds_seen (take number tokens) ++ token.kind.0 ∷ [])

  -- each token can stand, and yet the whole is no sentence
  pub record EndsShort (tokens : List Token) : Type 0 where
    pub follows : CanStand tokens
    pub not_whole : ¬ IsWhole g kinds (kinds_seen tokens)

  -- why there is no tree
  abbrev pub IsParseFault : List Token → ParseFault → Type 0
  IsParseFault tokens (Unexpected number token) = IsFirstImpossible tokens number token
  IsParseFault tokens UnexpectedEnd = EndsShort tokens
  IsParseFault tokens NoMemory = ⊤
