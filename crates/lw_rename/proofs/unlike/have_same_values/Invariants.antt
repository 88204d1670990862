use Rattle.lw_rename.specs.Alike.{HaveSameValues}
use Rattle.lw_rename.proofs.unlike.have_same_values.Given as goal

abbrev pub invariant-properties : goal.invariant-properties
invariant-properties l = HaveSameValues l.one l.other l.node.0 l.p
