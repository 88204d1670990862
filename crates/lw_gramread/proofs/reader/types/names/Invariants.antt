use Rattle.std.proofs.Common.{◌≤◌, length}
use Rattle.lw_gramlex.specs.declared.token.Symbol.TheVariants as sign
use Rattle.lw_gramread.specs.declared.reader.left.Spot.TheVariants as spot
use Rattle.lw_gramread.specs.Steps.{◌>>◌, sees, skip, one, free_word}
use Rattle.lw_gramread.specs.TypeSteps.{extended_names}
use Rattle.lw_gramread.proofs.Loops.{Gathering}
use Rattle.lw_gramread.proofs.reader.types.names.Given as goal

abbrev pub invariant-more : goal.invariant-more
invariant-more l = record {
  read : Gathering (sees sign.Comma) (skip >> one (free_word spot.Elsewhere)) (extended_names l.fn.left) l.names l.left;
  shorter : length l.left ≤ length l.fn.left;
}

abbrev pub decreases-more : goal.decreases-more
decreases-more l = length l.left
