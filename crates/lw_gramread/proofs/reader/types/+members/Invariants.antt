use Rattle.std.proofs.Common.{◌+◌, ◌*◌, ◌≤◌, length}
use Rattle.lw_gramlex.specs.declared.token.Symbol.TheVariants as sign
use Rattle.lw_gramread.specs.Steps.{◌>>◌, sees, skip}
use Rattle.lw_gramread.specs.TypeSteps.{single, more_members, members_inside}
use Rattle.lw_gramread.proofs.Loops.{Gathering}
use Rattle.lw_gramread.proofs.reader.types.+members.Given as goal

abbrev pub decreases-members : goal.decreases-members
decreases-members l = 4 * l.depth + 3

abbrev pub decreases-more_members : goal.decreases-more_members
decreases-more_members l = 4 * l.depth + 2

abbrev pub decreases-single : goal.decreases-single
decreases-single l = 4 * l.depth + 1

abbrev pub decreases-members_inside : goal.decreases-members_inside
decreases-members_inside l = 4 * l.depth

abbrev pub invariant-more_members-more : goal.invariant-more_members-more
invariant-more_members-more l = record {
  read : Gathering (sees sign.Bar) (skip >> single (members_inside l.depth)) (more_members (members_inside l.depth) l.fn.before l.fn.left) l.before l.left;
  shorter : length l.left ≤ length l.fn.left;
}

abbrev pub decreases-more_members-more : goal.decreases-more_members-more
decreases-more_members-more l = length l.left
