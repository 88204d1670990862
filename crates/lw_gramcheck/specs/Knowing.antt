-- What a checker holds is the grammar's.
use Rattle.lw_numbers.specs.Tables.{AreNumbersOf}
use Rattle.lw_numbers.specs.Kinship.{AreNodeRules}
use Rattle.lw_numbers.specs.NameTable.{AreNameRulesOf}
use Rattle.lw_gramcheck.specs.declared.parts.checker.Checker.{Checker}

pub record Knows (checker : Checker) : Type 0 where
  pub numbers : AreNumbersOf checker.g.now checker.numbers.now
  pub nodes : AreNodeRules checker.g.now checker.nodes.now
  pub name_rules : AreNameRulesOf checker.g.now checker.name_rules.now
