-- What lists of marks by their numbers mean.
use Rattle.std.specs.Prelude.{◌↔◌, List, All, Any}
use Rattle.lw_grammar.specs.declared.grammar.Grammar.{Grammar}
use Rattle.lw_program.specs.declared.recipes.mark.TreeMark.{TreeMark}
use Rattle.lw_program.specs.Meant.{AreMeant}
use Rattle.lw_grammar.specs.Marks.{Mark}

-- each of them means some marks
abbrev pub MeanSome : Grammar → List (List TreeMark) → Type 0
MeanSome g found = All (λ (marks : List TreeMark). (m : List Mark) × AreMeant g marks m) found

-- they mean exactly the marks that are such
abbrev pub MeanExactly : Grammar → (List Mark → Type 0) → List (List TreeMark) → Type 0
MeanExactly g Is found = (m : List Mark) → Is m ↔ Any (λ (marks : List TreeMark). AreMeant g marks m) found
