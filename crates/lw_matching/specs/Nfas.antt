-- The NFA of a terminal's pattern, and what a pattern matches at the start of a text whatever bytes follow it.
-- Held against the documentation of the crate `regex`: a pattern matches leftmost-first, and `\A` at the start of the text alone.
use Rattle.std.specs.Prelude.{◌≡◌, ℕ, ◌<◌, List, ◌++◌, length, Option, Some, slice_get, All}
use Rattle.regex_hir.specs.Meaning.{meaning}
use Rattle.regex_hir.specs.declared.hir.Hir.{Hir}
use Rattle.regex_syntax.specs.Grammar.{Names}
use Rattle.regex_syntax.specs.Verdict.{Reads, default_config}
use Rattle.regex_nfa.specs.declared.nfa.Nfa.{Nfa}
use Rattle.regex_compile.specs.Implements.{Implements}
use Rattle.lw_io.specs.Patterns.{anchored}
use Rattle.lw_tokens.specs.Lexicon.{TerminalForm}
use Rattle.lw_tokens.specs.Matching.{match_length}

-- the NFA is that of the pattern, as it is tried at the start of a text
pub record IsNfaOf (pattern : List ℕ) (nfa : Nfa) : Type 0 where
  pub tree : Hir
  pub names : Names
  pub reads : Reads default_config (anchored pattern) tree names
  pub implements : Implements nfa (meaning tree)

-- the NFAs are those of the terminals, in order
pub record AreNfas (terminals : List TerminalForm) (nfas : List Nfa) : Type 0 where
  pub count : length nfas ≡ length terminals
  pub each : (j : ℕ) (form : TerminalForm) (nfa : Nfa) → slice_get terminals j ≡ Some form → slice_get nfas j ≡ Some nfa →
      IsNfaOf form.pattern nfa

-- how many bytes the pattern matches at the start of the text, or that it does not match there, whatever bytes follow the text
abbrev pub IsForeseen : List ℕ → List ℕ → Option ℕ → Type 0
IsForeseen pattern text bytes = (more : List ℕ) → All (λ b. b < 256) (text ++ more) → match_length pattern (text ++ more) ≡ bytes
