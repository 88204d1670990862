-- What is said of the pattern of a terminal: its text where that is short, its length where it is long, or that there is none.
use Rattle.std.specs.Prelude.{ℕ, ◌≡◌, ◌<◌, ◌≤◌, List, Some, Bool, true, false, length, min, slice_get}
use Rattle.lw_grammar.specs.declared.grammar.Grammar.{Grammar}
use Rattle.lw_grammar.specs.declared.terminal.Terminal.{Terminal}
use Rattle.lw_tokens.specs.Patterns.{TerminalPattern}
use Rattle.lw_terminals.specs.declared.patterns.written.Written.{Written}
use Rattle.lw_terminals.specs.declared.patterns.written.Written.TheVariants.{Short, Long, Unwritten}
use Rattle.lw_terminals.specs.declared.patterns.written.TheConstants.{LONGEST_PATTERN}

-- how long a text is, in bytes, where 4,294,967,295 stands for all that are longer
abbrev pub measured : List ℕ → ℕ
measured p = min (length p) 4294967295

-- this is said of the pattern p
abbrev pub Says : Written → List ℕ → Type 0
Says (Short text) p = (text ≡ p) × (length p ≤ LONGEST_PATTERN)
Says (Long bytes) p = (bytes ≡ measured p) × (LONGEST_PATTERN < length p)
Says Unwritten p = ⊥

-- a pattern was found
abbrev pub is_found : Written → Bool
is_found (Short text) = true
is_found (Long bytes) = true
is_found Unwritten = false

module _ (g : Grammar) where
  -- this is what is to be said of the terminal's pattern
  abbrev pub IsPatternOf : Terminal → Written → Type 0
  IsPatternOf t (Short p) = TerminalPattern g t p × (length p ≤ LONGEST_PATTERN)
  IsPatternOf t (Long bytes) = (p : List ℕ) × TerminalPattern g t p × (LONGEST_PATTERN < length p) × (bytes ≡ measured p)
  IsPatternOf t Unwritten = (p : List ℕ) → ¬ TerminalPattern g t p

  -- each of these is said of the terminal at its place
  pub record ArePatternsOf (written : List Written) : Type 0 where
    pub count : length written ≡ length g.terminals
    pub each : (i : ℕ) (t : Terminal) (w : Written) → slice_get g.terminals i ≡ Some t → slice_get written i ≡ Some w → IsPatternOf t w
