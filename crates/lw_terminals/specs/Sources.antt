-- What a set of tokens is made from: of the terminals that are kinds, those in front of the first whose pattern is long.
use Rattle.std.specs.Prelude.{ℕ, ◌≡◌, ◌+◌, ◌<◌, ◌≤◌, List, Option, Some, None, length, take, slice_get}
use Rattle.std.specs.List.{AllZip}
use Rattle.lw_base.specs.declared.numbers.RuleId.{RuleId}
use Rattle.lw_grammar.specs.declared.grammar.Grammar.{Grammar}
use Rattle.lw_grammar.specs.declared.terminal.Terminal.{Terminal}
use Rattle.lw_terminals.specs.declared.patterns.written.TheConstants.{LONGEST_PATTERN}
use Rattle.lw_terminals.specs.WrittenPatterns.{measured}
use Rattle.lw_matchers.specs.declared.source.TerminalSource.{TerminalSource}
use Rattle.lw_tokens.specs.Patterns.{TerminalPattern}
use Rattle.lw_terminals.specs.declared.sources.Sources.{Sources}

module _ (g : Grammar) where
  -- the terminal of this place has a short pattern, and this is what it is made from
  pub record IsSourceOf (place : ℕ) (source : TerminalSource) : Type 0 where
    pub terminal : Terminal
    pub there : slice_get g.terminals place ≡ Some terminal
    pub name : source.name ≡ terminal.name
    pub written : TerminalPattern g terminal source.pattern
    pub short : length source.pattern ≤ LONGEST_PATTERN
    pub hidden : source.hidden ≡ terminal.is_hidden

  -- the terminal of this place has a pattern that is long, and that is measured so
  pub record HasLongPattern (place bytes : ℕ) : Type 0 where
    pub terminal : Terminal
    pub there : slice_get g.terminals place ≡ Some terminal
    pub pattern : List ℕ
    pub written : TerminalPattern g terminal pattern
    pub long : LONGEST_PATTERN < length pattern
    pub bytes_are : bytes ≡ measured pattern

  -- behind so many of these places the first stands whose terminal has a long pattern, or none is left
  abbrev pub EndsAt : List ℕ → ℕ → Option ℕ → Type 0
  EndsAt places count (Some bytes) = (place : ℕ) × (slice_get places count ≡ Some place) × HasLongPattern place bytes
  EndsAt places count None = count ≡ length places

  -- these are the sources of the terminals of these places
  pub record AreSourcesOf (places : List ℕ) (sources : Sources) : Type 0 where
    pub each : AllZip IsSourceOf (take (length sources.terminals.items) places) sources.terminals.items
    pub end : EndsAt places (length sources.terminals.items) sources.long

-- this is by what the terminal of the kind of this number is told: its number among rules and terminals
abbrev pub IsNumberedAs : Grammar → List ℕ → ℕ → RuleId → Type 0
IsNumberedAs g places number rule = (place : ℕ) × (slice_get places number ≡ Some place) × (rule.0 ≡ length g.rules + place)
