-- What a scribe knows of the patterns that were found so far, in words of the code.
use Rattle.std.specs.Prelude.{ℕ, ◌≡◌, List, Some, true, length, slice_get, slice_index_or}
use Rattle.lw_grammar.specs.declared.grammar.Grammar.{Grammar}
use Rattle.lw_grammar.specs.declared.terminal.Terminal.{Terminal}
use Rattle.lw_numbers.specs.Tables.{Tables, AreNumbersOf}
use Rattle.lw_tokens.specs.Patterns.{TerminalPattern}
use Rattle.lw_terminals.specs.declared.patterns.scribe.Scribe.{Scribe}
use Rattle.lw_terminals.specs.declared.patterns.written.Written.{Written}
use Rattle.lw_terminals.specs.declared.patterns.written.Written.TheVariants.{Unwritten}
use Rattle.lw_terminals.specs.WrittenPatterns.{Says, is_found}

-- what is said of the terminal at a place
abbrev pub said_at : List Written → ℕ → Written
said_at written t = slice_index_or written t Unwritten

-- the pattern of the terminal at this place was found
abbrev pub IsFoundAt : List Written → ℕ → Type 0
IsFoundAt written t = is_found (said_at written t) ≡ true

module _ (g : Grammar) where
  -- what is said of a terminal is said of its pattern
  abbrev pub SaysPatternOf : Terminal → Written → Type 0
  SaysPatternOf terminal w = (p : List ℕ) × TerminalPattern g terminal p × Says w p

  -- what was found is right
  abbrev pub ArePatternsSound : List Written → Type 0
  ArePatternsSound written = (t : ℕ) (terminal : Terminal) → slice_get g.terminals t ≡ Some terminal → IsFoundAt written t → SaysPatternOf terminal (said_at written t)

-- what is known: what the names of a grammar mean, and of each of its terminals what was found, which is right
pub record ArePatternsKnown (g : Grammar) (tables : Tables) (written : List Written) : Type 0 where
  pub numbers : AreNumbersOf g tables
  pub count : length written ≡ length g.terminals
  pub sound : ArePatternsSound g written

abbrev pub KnowsPatterns : Scribe → Type 0
KnowsPatterns scribe = ArePatternsKnown scribe.g.now scribe.numbers.now scribe.written.now
