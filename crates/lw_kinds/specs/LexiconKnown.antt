-- What is known of a grammar's names and kinds.
use Rattle.lw_numbers.specs.Tables.{AreNumbersOf}
use Rattle.lw_numbers.specs.NameTable.{AreNameRulesOf}
use Rattle.lw_kinds.specs.Rows.{AreKindRowOf}
use Rattle.lw_kinds.specs.declared.lexicon.lexicon.Lexicon.{Lexicon}

pub record IsKnownLexicon (lexicon : Lexicon) : Type 0 where
  pub numbers : AreNumbersOf lexicon.g.now lexicon.numbers.now
  pub name_rules : AreNameRulesOf lexicon.g.now lexicon.name_rules.now
  pub kinds : AreKindRowOf lexicon.g.now lexicon.kinds.now
