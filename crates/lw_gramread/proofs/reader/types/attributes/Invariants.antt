use Rattle.std.proofs.Common.{◌≤◌, length}
use Rattle.lw_gramread.specs.Steps.{sees_word, one}
use Rattle.lw_gramread.specs.TypeSteps.{attribute, attributes}
use Rattle.lw_gramread.specs.TypeSteps.{deepest}
use Rattle.lw_gramread.proofs.Loops.{Gathering}
use Rattle.lw_gramread.proofs.reader.types.attributes.Given as goal

abbrev pub invariant-more : goal.invariant-more
invariant-more l = record {
  read : Gathering (sees_word) (one (attribute deepest)) (attributes deepest l.fn.left) l.attributes l.left;
  shorter : length l.left ≤ length l.fn.left;
}

abbrev pub decreases-more : goal.decreases-more
decreases-more l = length l.left
