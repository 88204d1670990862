-- What the parts of a grammar's types keep is the grammar's.
use Rattle.std.specs.Prelude.{ℕ}
use Rattle.lw_grammar.specs.declared.grammar.Grammar.{Grammar}
use Rattle.lw_numbers.specs.Tables.{AreNumbersOf}
use Rattle.lw_numbers.specs.Kinship.{AreNodeRules, AreSubtypesOf}
use Rattle.lw_numbers.specs.NameTable.{AreNameRulesOf}
use Rattle.lw_flow.specs.Recorded.{AreWaysOf}
use Rattle.lw_types.specs.Sets.{AreSetsOf}
use Rattle.lw_types.specs.declared.types.RuleFacts.{RuleFacts}
use Rattle.lw_types.specs.declared.types.TypeFacts.{TypeFacts}

pub record AreRuleFactsOf (g : Grammar) (rules : RuleFacts) : Type 0 where
  pub numbers : AreNumbersOf g rules.numbers
  pub nodes : AreNodeRules g rules.nodes.items
  pub ways : AreWaysOf g rules.ways

-- of so many types that have numbers
pub record AreTypeFactsOf (g : Grammar) (count : ℕ) (types : TypeFacts) : Type 0 where
  pub subtypes : AreSubtypesOf g types.subtypes
  pub below : AreSetsOf types.subtypes count count types.below.items
  pub name_rules : AreNameRulesOf g types.name_rules
