-- What a call by name reads: a token of a terminal's kind, or a rule, or nothing that is known.
use Rattle.std.specs.Prelude.{ℕ, List}
use Rattle.lw_grammar.specs.declared.grammar.Grammar.{Grammar}
use Rattle.lw_grammar.specs.declared.rule.Rule.{Rule}
use Rattle.lw_grammar.specs.Kinds.{Kinds, IsTerminalKind}
use Rattle.lw_grammar.specs.Named.{IsRule}
use Rattle.lw_kinds.specs.declared.lexicon.callee.Callee.{Callee}
use Rattle.lw_kinds.specs.declared.lexicon.callee.Callee.TheVariants.{Token, Rule as rule_, Nothing}

module _ (g : Grammar) (kinds : Kinds) where
  abbrev pub IsCalleeNamed : List ℕ → Callee → Type 0
  IsCalleeNamed name (Token k) = IsTerminalKind g kinds name k.0
  IsCalleeNamed name (rule_ r) = (rule : Rule) × IsRule g name r rule
  IsCalleeNamed name Nothing = ((k : ℕ) → ¬ IsTerminalKind g kinds name k) × ((r : ℕ) (rule : Rule) → ¬ IsRule g name r rule)
