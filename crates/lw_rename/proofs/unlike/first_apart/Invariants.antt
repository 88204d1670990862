use Rattle.lw_rename.specs.Alike.{IsFirstApartBelow}
use Rattle.lw_rename.proofs.unlike.first_apart.Given as goal

abbrev pub invariant-references : goal.invariant-references
invariant-references l = IsFirstApartBelow l.i l.one l.other l.found
