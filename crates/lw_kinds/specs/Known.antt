-- What is known of the names of a grammar, in words of the code.
use Rattle.lw_numbers.specs.Tables.{AreNumbersOf}
use Rattle.lw_numbers.specs.NameTable.{AreNameRulesOf}
use Rattle.lw_kinds.specs.declared.derivations.names.Names.{Names}

-- it is so of this grammar
pub record AreKnown (names : Names) : Type 0 where
  pub numbers : AreNumbersOf names.g.now names.numbers.now
  pub name_rules : AreNameRulesOf names.g.now names.name_rules.now
