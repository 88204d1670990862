-- Marks with numbers that mean the only sentence of a list of kinds.
use Rattle.std.specs.Prelude.{ℕ, List}
use Rattle.lw_grammar.specs.declared.grammar.Grammar.{Grammar}
use Rattle.lw_grammar.specs.Kinds.{Kinds}
use Rattle.lw_grammar.specs.Marks.{Mark}
use Rattle.lw_program.specs.declared.recipes.mark.TreeMark.{TreeMark}
use Rattle.lw_program.specs.Meant.{AreMeant}
use Rattle.lw_parse.specs.Outcomes.{IsOnlySentence}

pub record MeanOnlySentence (g : Grammar) (kinds : Kinds) (ks : List ℕ) (marks : List TreeMark) : Type 0 where
  pub sentence : List Mark
  pub meant : AreMeant g marks sentence
  pub one : IsOnlySentence g kinds ks sentence
