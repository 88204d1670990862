-- What single rules add to the faults, in words of the code.
use Rattle.std.specs.Prelude.{ℕ, ◌≡◌, true}
use Rattle.lw_grammar.specs.declared.fault.GrammarFault.{GrammarFault}
use Rattle.lw_grammar.specs.declared.grammar.Grammar.{Grammar}
use Rattle.lw_grammar.specs.declared.rule.Rule.{Rule}
use Rattle.lw_grammar.specs.declared.rule.RuleResult.{RuleResult}
use Rattle.lw_grammar.specs.declared.rule.RuleResult.TheVariants.{Own, Returns, Gives, Infers}
use Rattle.lw_grammar.specs.declared.terminal.Terminal.{Terminal}
use Rattle.lw_grammar.specs.Nodes.{IsDataType}
use Rattle.lw_faults.specs.DataTypes.{IsPlainUnion}
use Rattle.lw_faults.specs.Faults.{fault}
use Rattle.lw_faults.specs.Finding.{OneIf}

-- the fault of this number at a rule
abbrev pub at_rule : ℕ → Rule → GrammarFault
at_rule number rule = fault number rule.file rule.span rule.name

-- and at a terminal
abbrev pub at_terminal : ℕ → Terminal → GrammarFault
at_terminal number terminal = fault number terminal.file terminal.span terminal.name

-- the rule is marked as the entry of the root file
abbrev pub IsMarked : Rule → Type 0
IsMarked rule = (rule.is_entry ≡ true) × (rule.file ≡ 0)

-- and would be the second
abbrev pub MarkedAgain : Rule → GrammarFault → Type 0
MarkedAgain rule = OneIf (IsMarked rule) (at_rule 2 rule)

-- ---- what a rule says of its type

module _ (g : Grammar) where
  abbrev pub IsMixed : Rule → RuleResult → Type 0
  IsMixed rule Own = ⊥
  IsMixed rule (Gives p) = ¬ IsDataType g rule
  IsMixed rule (Infers name s) = IsDataType g rule
  IsMixed rule (Returns name s) = IsDataType g rule × ¬ IsPlainUnion g name

  abbrev pub MixedHere : ℕ → Rule → GrammarFault → Type 0
  MixedHere r rule = OneIf (IsMixed rule rule.result) (at_rule 13 rule)
