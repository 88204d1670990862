-- A terminal has one pattern, since a grammar with kinds has one lexicon.
use Rattle.std.proofs.Common.{◌≡◌, List, [], ◌∷◌, ℕ, refl, ap}
use Rattle.lw_grammar.specs.declared.grammar.Grammar.{Grammar}
use Rattle.lw_grammar.specs.declared.terminal.Terminal.{Terminal}
use Rattle.lw_grammar.specs.Kinds.{Kinds}
use Rattle.lw_tokens.specs.Patterns.{TerminalPattern}
use Rattle.lw_tokens.specs.Lexicon.{Lexicon, TerminalForm, IsLexicon}
use Rattle.lw_tokens.proofs.OnePattern.{one_lexicon}

-- the pattern of the first of these
abbrev first_pattern : List TerminalForm → List ℕ
first_pattern [] = []
first_pattern (form ∷ forms) = form.pattern

module _ (g : Grammar) (t : Terminal) where
  abbrev alone : Kinds
  alone = record { keywords = []; terminals = t ∷ [] }

  abbrev with_pattern : List ℕ → Lexicon
  with_pattern p = record { keywords = []; terminals = record { pattern = p; hidden = t.is_hidden } ∷ [] }

  is_lexicon : (p : List ℕ) → TerminalPattern g t p → IsLexicon g alone (with_pattern p)
  is_lexicon p is = record { keywords = refl; terminals = (record { pattern = is; hidden = refl }, tt) }

  pub one_terminal : (p q : List ℕ) → TerminalPattern g t p → TerminalPattern g t q → p ≡ q
  one_terminal p q is was = ap (λ (x : Lexicon). first_pattern x.terminals) (one_lexicon g alone (with_pattern p) (with_pattern q) (is_lexicon p is) (is_lexicon q was))
