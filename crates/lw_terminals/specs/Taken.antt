-- Which patterns of terminals are taken, and which terminal is the first whose pattern is not.
use Rattle.std.specs.Prelude.{ℕ, ◌≡◌, ◌+◌, ◌≤◌, List, Some, length, take, slice_get, All, Contains}
use Rattle.lw_base.specs.declared.numbers.RuleId.{RuleId}
use Rattle.lw_grammar.specs.declared.grammar.Grammar.{Grammar}
use Rattle.lw_grammar.specs.declared.terminal.Terminal.{Terminal}
use Rattle.lw_kinds.specs.Rows.{KindRow}
use Rattle.lw_terminals.specs.declared.patterns.written.TheConstants.{LONGEST_PATTERN}
use Rattle.lw_matchers.specs.Made.{IsUsable}
use Rattle.lw_tokens.specs.Patterns.{TerminalPattern}

-- a pattern that is short, that can be read, that does not match the empty text, and that is none of those which the maker lists, and so refuses
pub record IsTaken (listed : List (List ℕ)) (pattern : List ℕ) : Type 0 where
  pub short : length pattern ≤ LONGEST_PATTERN
  pub usable : IsUsable pattern
  pub unlisted : ¬ Contains listed pattern

module _ (g : Grammar) (listed : List (List ℕ)) where
  -- the pattern of the terminal of this place is taken
  pub record HasTaken (place : ℕ) : Type 0 where
    pub terminal : Terminal
    pub there : slice_get g.terminals place ≡ Some terminal
    pub pattern : List ℕ
    pub written : TerminalPattern g terminal pattern
    pub taken : IsTaken listed pattern

  -- Of the terminals that are kinds, those before this one have patterns that are taken, and this is its pattern. It is told by its number
  -- among rules and terminals.
  pub record IsTried (row : KindRow) (rule : RuleId) (pattern : List ℕ) : Type 0 where
    pub number : ℕ
    pub place : ℕ
    pub kind : slice_get row.terminals number ≡ Some place
    pub before : All HasTaken (take number row.terminals)
    pub terminal : Terminal
    pub there : slice_get g.terminals place ≡ Some terminal
    pub written : TerminalPattern g terminal pattern
    pub told : rule.0 ≡ length g.rules + place
