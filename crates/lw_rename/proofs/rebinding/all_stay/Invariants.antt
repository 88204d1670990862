use Rattle.lw_rename.specs.Afterwards.{trees_after}
use Rattle.lw_rename.specs.Staying.{StayAmongFirst}
use Rattle.lw_rename.proofs.rebinding.all_stay.Given as goal

abbrev pub invariant-linking : goal.invariant-linking
invariant-linking g l = StayAmongFirst l.language.grammar l.views (trees_after l.views l.trees) l.trees l.i
