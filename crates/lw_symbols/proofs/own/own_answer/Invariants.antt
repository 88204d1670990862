use Rattle.std.proofs.Common.{◌<◌, length}
use Rattle.lw_symbols.proofs.Levels.{GoesOnFrom}
use Rattle.lw_symbols.proofs.own.own_answer.Given as goal

-- the levels up to this one have nothing that fits
abbrev pub invariant-loop-level : goal.invariant-loop-level
invariant-loop-level l = record {
  inside : l.level.0 < length l.tree.nodes;
  goes : GoesOnFrom l.tree l.reference l.fits l.level.0;
}

abbrev pub decreases-loop-level : goal.decreases-loop-level
decreases-loop-level l = l.level.0
