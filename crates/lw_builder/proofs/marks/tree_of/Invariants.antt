use Rattle.std.proofs.Common.{drop, List}
use Rattle.lw_grammar.specs.declared.grammar.Grammar.{Grammar}
use Rattle.lw_grammar.specs.Marks.{Mark}
use Rattle.lw_reading.specs.Brackets.{Bracket}
use Rattle.lw_reading.specs.Follows.{FollowsMarks}
use Rattle.lw_program.specs.Making.{AreRecipesOf}
use Rattle.lw_program.specs.Meant.{AreMeant}
use Rattle.lw_builder.specs.Built.{IsOverSame}
use Rattle.lw_builder.proofs.AllMarks.{IsUnderway}
use Rattle.lw_builder.proofs.marks.tree_of.Given as goal

abbrev pub invariant-marks : goal.invariant-marks
invariant-marks l =
    record {
      all : (g : Grammar) (m : List Mark) (bs : List Bracket) → AreRecipesOf g l.initial.builder.recipes.now → AreMeant g l.marks m →
          FollowsMarks g l.initial.builder.text.now m l.initial.builder.visible.now bs → IsUnderway g m bs (drop l.mark-index l.marks) l.builder;
      over : IsOverSame l.initial.builder l.builder;
    }
