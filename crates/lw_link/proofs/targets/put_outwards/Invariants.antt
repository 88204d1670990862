use Rattle.std.proofs.Common.{◌<◌, length}
use Rattle.lw_link.proofs.PutLevels.{GoesOn}
use Rattle.lw_link.proofs.targets.put_outwards.Given as goal

-- those of the levels so far
abbrev pub invariant-loop-container : goal.invariant-loop-container
invariant-loop-container l = record {
  inside : l.level.0 < length l.tree.nodes;
  goes : GoesOn l.tree l.fits l.reference.owner.0 l.level.0 l.initial.names.items l.names.items;
}

abbrev pub decreases-loop-container : goal.decreases-loop-container
decreases-loop-container l = l.level.0
