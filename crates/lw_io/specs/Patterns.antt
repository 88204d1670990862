-- What a maker of patterns answers for a text, and what it does to the count of faults and to the text last refused.
use Rattle.std.specs.Prelude.{◌≡◌, ◌≢◌, ℕ, List, ◌++◌, codes, Option, Some, Result, Ok, Err}
use Rattle.regex_syntax.specs.declared.error.ErrorKind.{ErrorKind}
use Rattle.regex_syntax.specs.declared.error.ErrorKind.TheVariants.{OutOfMemory}
use Rattle.regex.specs.Patterns.{default_config, Refuses}
use Rattle.regex.specs.Failures.{IsPattern}
use Rattle.lw_io.specs.Causes.{Faulted}
use Rattle.lw_io.specs.declared.patterns.MakeFault.{MakeFault}
use Rattle.lw_io.specs.declared.patterns.MakeFault.TheVariants.{Refused, NoMemory}

-- the text that is handed to `regex`: `\A(?:text)`, so that the pattern matches at the start of what it is tried on
abbrev pub anchored : List ℕ → List ℕ
anchored text = codes "\\A(?:" ++ text ++ codes ")"

-- `regex` refuses the text under its default options, and not for want of memory
pub data RegexRefuses (text : List ℕ) : Type 0 where
  -- its grammar refuses the text, for this cause
  by_grammar : (cause : ErrorKind) → cause ≢ OutOfMemory → Refuses default_config text cause → RegexRefuses text
  -- its grammar reads a pattern in the text, and this is too big
  too_big : IsPattern default_config text → RegexRefuses text

-- the count rises at `Refused`, and stands still at every other answer
abbrev pub CountsMake : {T : Type 0} → ℕ → ℕ → Result T MakeFault → Type 0
CountsMake before now (Ok pattern) = now ≡ before
CountsMake before now (Err Refused) = Faulted before now
CountsMake before now (Err NoMemory) = now ≡ before

-- the text last refused is this one at `Refused`, and stays what it was at every other answer
abbrev pub Remembers : {T : Type 0} → Option (List ℕ) → Option (List ℕ) → List ℕ → Result T MakeFault → Type 0
Remembers old new text (Ok pattern) = new ≡ old
Remembers old new text (Err Refused) = new ≡ Some text
Remembers old new text (Err NoMemory) = new ≡ old
