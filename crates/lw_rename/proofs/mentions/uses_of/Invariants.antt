use Rattle.lw_rename.proofs.Uses.{AreUsesBelow}
use Rattle.lw_rename.proofs.mentions.uses_of.Given as goal

abbrev pub invariant-uses : goal.invariant-uses
invariant-uses l = AreUsesBelow l.tree l.answers l.target l.i l.keys.items
