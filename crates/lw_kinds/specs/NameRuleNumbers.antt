-- The rule or terminal that reads a cross-reference to a type where none is written, by its number.
use Rattle.std.specs.Prelude.{ℕ, List}
use Rattle.lw_grammar.specs.declared.grammar.Grammar.{Grammar}
use Rattle.lw_grammar.specs.NameRules.{IsNameRule}
use Rattle.lw_numbers.specs.Numbering.{IsNumbered}

pub record IsNameRuleNumber (g : Grammar) (wanted : List ℕ) (n : ℕ) : Type 0 where
  pub name : List ℕ
  pub reads : IsNameRule g wanted name
  pub number : IsNumbered g name n
