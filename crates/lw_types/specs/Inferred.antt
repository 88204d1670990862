-- What is known of the types of a grammar, and why it has none.
-- Held against the Langium documentation, "Semantic model: type inference and declared types".
use Rattle.std.specs.Prelude.{◌≢◌, [], length}
use Rattle.lw_grammar.specs.declared.fault.GrammarFault.{GrammarFault}
use Rattle.lw_grammar.specs.declared.grammar.Grammar.{Grammar}
use Rattle.lw_faults.specs.Faults.{IsTypeFault, AreTypeFaults}
use Rattle.lw_types.specs.Facts.{AreRuleFactsOf, AreTypeFactsOf}
use Rattle.lw_types.specs.declared.types.Types.{Types}
use Rattle.lw_types.specs.declared.fault.TypeFaults.{TypeFaults}
use Rattle.lw_types.specs.declared.fault.TypeFaults.TheVariants.{Faults, NoMemory}

-- all that is kept is the grammar's
pub record AreTypesOf (g : Grammar) (known : Types) : Type 0 where
  pub rules : AreRuleFactsOf g known.rules
  pub types : AreTypeFactsOf g (length known.rules.numbers.types) known.types

-- nothing is wrong with the grammar's names and types
abbrev pub HasNoTypeFault : Grammar → Type 0
HasNoTypeFault g = (f : GrammarFault) → ¬ IsTypeFault g f

-- why there are no types: exactly these faults, of which there are some
abbrev pub CausesNoTypes : Grammar → TypeFaults → Type 0
CausesNoTypes g (Faults faults) = AreTypeFaults g faults × (faults ≢ [])
CausesNoTypes g NoMemory = Unit {0}
