-- The set of tokens of a grammar, and why there is none.
use Rattle.std.specs.Prelude.{ℕ, ◌≡◌, ◌<◌, ◌≤◌, List, [], Option, Some, Result, Err, length, All, Contains}
use Rattle.lw_grammar.specs.declared.grammar.Grammar.{Grammar}
use Rattle.lw_grammar.specs.declared.terminal.Terminal.{Terminal}
use Rattle.lw_grammar.specs.Kinds.{Kinds, AreKinds}
use Rattle.lw_grammar.specs.KindTexts.{texts_of}
use Rattle.lw_io.specs.Causes.{Faulted}
use Rattle.lw_kinds.specs.Rows.{KindRow, AreKindRowOf}
use Rattle.lw_terminals.specs.declared.patterns.written.TheConstants.{LONGEST_PATTERN}
use Rattle.lw_terminals.specs.WrittenPatterns.{measured}
use Rattle.lw_matchers.specs.TokenKinds.{TokenKinds}
use Rattle.lw_tokens.specs.Lexicon.{IsLexicon}
use Rattle.lw_tokens.specs.Matching.{match_length}
use Rattle.lw_tokens.specs.Patterns.{TerminalPattern}
use Rattle.lw_terminals.specs.declared.fault.TermFault.{TermFault}
use Rattle.lw_terminals.specs.declared.fault.TermFault.TheVariants.{TooManyKinds, KeywordBlank, PatternLong, PatternRefused, EmptyMatch, NoMemory}
use Rattle.lw_terminals.specs.Limits.{AreFew, AreTooMany, AreNotBlank, IsFirstBlank}
use Rattle.lw_terminals.specs.Taken.{HasTaken, IsTried}

-- each terminal has a pattern
abbrev pub HasPatterns : Grammar → Type 0
HasPatterns g = (t : Terminal) → Contains g.terminals t → (p : List ℕ) × TerminalPattern g t p

-- neither are there too many kinds, nor is a keyword blank
pub record HasSoundKinds (row : KindRow) : Type 0 where
  pub few : AreFew row
  pub not_blank : AreNotBlank row.keywords

module _ (g : Grammar) (listed : List (List ℕ)) where
  -- this is what texts are cut by: the grammar's keywords and the patterns of its terminals, all of which are taken
  pub record IsTokenSetOf (row : KindRow) (tokens : TokenKinds) : Type 0 where
    pub sound : HasSoundKinds row
    pub taken : All (HasTaken g listed) row.terminals
    pub of : Kinds
    pub are : AreKinds g of
    pub lexicon : IsLexicon g of tokens.lexicon
    pub texts : tokens.texts ≡ texts_of of

  -- why a grammar has none, where this is the text that was refused last
  abbrev pub CausesNoTokens : KindRow → Option (List ℕ) → TermFault → Type 0
  CausesNoTokens row refused (TooManyKinds n) = AreTooMany row n
  CausesNoTokens row refused (KeywordBlank file span) = AreFew row × IsFirstBlank row (record { file = file; span = span })
  CausesNoTokens row refused (PatternLong rule bytes) =
      HasSoundKinds row × (pattern : List ℕ) × IsTried g listed row rule pattern × (LONGEST_PATTERN < length pattern) × (bytes ≡ measured pattern)
  CausesNoTokens row refused (PatternRefused rule) =
      HasSoundKinds row × (pattern : List ℕ) × IsTried g listed row rule pattern × (length pattern ≤ LONGEST_PATTERN) × (refused ≡ Some pattern)
  CausesNoTokens row refused (EmptyMatch rule) =
      HasSoundKinds row × (pattern : List ℕ) × IsTried g listed row rule pattern × (length pattern ≤ LONGEST_PATTERN) × (match_length pattern [] ≡ Some 0)
      × ¬ Contains listed pattern
  CausesNoTokens row refused NoMemory = Unit {0}

-- the grammar's kinds are sound, and its patterns are all taken
pub record HasTokens (g : Grammar) (listed : List (List ℕ)) : Type 0 where
  pub row : KindRow
  pub are_kinds : AreKindRowOf g row
  pub sound : HasSoundKinds row
  pub taken : All (HasTaken g listed) row.terminals

-- a fault that the kinds and patterns of a grammar decide, and no maker of patterns
abbrev pub IsOfKindsAndPatterns : TermFault → Type 0
IsOfKindsAndPatterns (PatternRefused rule) = ⊥
IsOfKindsAndPatterns NoMemory = ⊥
IsOfKindsAndPatterns _ = Unit {0}

-- the count of refusals rises at `PatternRefused`, and stands still at every other answer
abbrev pub CountsRefused : {T : Type 0} → ℕ → ℕ → Result T TermFault → Type 0
CountsRefused before now (Err (PatternRefused rule)) = Faulted before now
CountsRefused before now _ = now ≡ before

-- the text last refused stays what it was at every answer but `PatternRefused`
abbrev pub KeepsLastRefused : {T : Type 0} → Option (List ℕ) → Option (List ℕ) → Result T TermFault → Type 0
KeepsLastRefused before now (Err (PatternRefused rule)) = Unit {0}
KeepsLastRefused before now _ = now ≡ before
