-- How the patterns that were found grow over rounds, in words of the code.
use Rattle.std.specs.Prelude.{ℕ, ◌≡◌, ◌<◌, List, Bool, true, false, Option, Some, None, count_by, not, slice_get}
use Rattle.lw_grammar.specs.declared.grammar.Grammar.{Grammar}
use Rattle.lw_grammar.specs.declared.terminal.Terminal.{Terminal}
use Rattle.lw_terminals.specs.declared.patterns.written.Written.{Written}
use Rattle.lw_terminals.specs.Readiness.{ElementIsReady}
use Rattle.lw_terminals.specs.WrittenPatterns.{is_found}
use Rattle.lw_terminals.specs.Writing.{IsFoundAt, SaysPatternOf}

-- how many were not found
abbrev pub missing : List Written → ℕ
missing written = count_by (λ w. not (is_found w)) written

module _ (g : Grammar) where
  -- the pattern of the terminal at this place was found, if its body can be written
  abbrev pub IsPatternSettledAt : List Written → ℕ → Type 0
  IsPatternSettledAt written t = (terminal : Terminal) → slice_get g.terminals t ≡ Some terminal → ElementIsReady g (IsFoundAt written) terminal.body → IsFoundAt written t

  -- what is to be said of the terminal at this place, or its body cannot be written yet
  abbrev pub IsNextWritten : ℕ → List Written → Option Written → Type 0
  IsNextWritten t written (Some w) = (terminal : Terminal) → slice_get g.terminals t ≡ Some terminal → SaysPatternOf g terminal w
  IsNextWritten t written None = (terminal : Terminal) → slice_get g.terminals t ≡ Some terminal → ¬ ElementIsReady g (IsFoundAt written) terminal.body

  -- one more was found, or all stayed and those below this place are settled
  abbrev pub PatternsGrewBelow : ℕ → List Written → List Written → Bool → Type 0
  PatternsGrewBelow t old new true = missing new < missing old
  PatternsGrewBelow t old new false = (new ≡ old) × ((k : ℕ) → k < t → IsPatternSettledAt old k)

  -- the same at one place
  abbrev pub PatternsGrewAt : ℕ → List Written → List Written → Bool → Type 0
  PatternsGrewAt t old new true = missing new < missing old
  PatternsGrewAt t old new false = (new ≡ old) × IsPatternSettledAt old t

  -- some was found, or each is settled
  abbrev pub PatternsGrewOrSettled : List Written → List Written → Bool → Type 0
  PatternsGrewOrSettled old new true = missing new < missing old
  PatternsGrewOrSettled old new false = (t : ℕ) → IsPatternSettledAt new t
