use Rattle.lw_rename.specs.Entries.{IsIndexAfter}
use Rattle.lw_rename.proofs.entering.index_after.Given as goal

abbrev pub invariant-entering : goal.invariant-entering
invariant-entering l = IsIndexAfter l.views l.trees l.i l.index
