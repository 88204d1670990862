-- What is declared again, in words of the code: what stands at a place that its own name does not mean.
use Rattle.std.specs.Prelude.{ℕ, ◌⊎◌}
use Rattle.lw_grammar.specs.declared.grammar.Grammar.{Grammar}
use Rattle.lw_grammar.specs.declared.fault.GrammarFault.{GrammarFault}
use Rattle.lw_grammar.specs.declared.rule.Rule.{Rule}
use Rattle.lw_grammar.specs.declared.terminal.Terminal.{Terminal}
use Rattle.lw_grammar.specs.declared.declared_types.Interface.{Interface}
use Rattle.lw_grammar.specs.declared.declared_types.UnionDef.{UnionDef}
use Rattle.lw_grammar.specs.Named.{IsRule, IsTerminal, IsInterface, IsUnion}
use Rattle.lw_faults.specs.Faults.{fault}
use Rattle.lw_faults.specs.Finding.{AtSome, OneIf}

module _ (g : Grammar) where
  abbrev pub TellsSecondRule : ℕ → Rule → GrammarFault → Type 0
  TellsSecondRule i x = OneIf (¬ IsRule g x.name i x) (fault 4 x.file x.span x.name)

  abbrev pub TellsSecondTerminal : ℕ → Terminal → GrammarFault → Type 0
  TellsSecondTerminal i x = OneIf (¬ IsTerminal g x.name i x) (fault 4 x.file x.span x.name)

  abbrev pub TellsSecondInterface : ℕ → Interface → GrammarFault → Type 0
  TellsSecondInterface i x = OneIf (¬ IsInterface g x.name i x) (fault 4 x.file x.span x.name)

  abbrev pub TellsSecondUnion : ℕ → UnionDef → GrammarFault → Type 0
  TellsSecondUnion i x = OneIf (¬ IsUnion g x.name i x) (fault 4 x.file x.span x.name)

  abbrev pub TellsSecond : GrammarFault → Type 0
  TellsSecond f =
      ((AtSome TellsSecondRule g.rules f ⊎ AtSome TellsSecondTerminal g.terminals f) ⊎ AtSome TellsSecondInterface g.interfaces f)
      ⊎ AtSome TellsSecondUnion g.unions f
