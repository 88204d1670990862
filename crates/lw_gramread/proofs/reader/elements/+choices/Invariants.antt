use Rattle.std.proofs.Common.{◌+◌, ◌*◌, ◌≤◌, length}
use Rattle.lw_gramlex.specs.declared.token.Symbol.TheVariants as sign
use Rattle.lw_gramread.specs.Steps.{◌>>◌, sees, skip, one}
use Rattle.lw_gramread.specs.ValueSteps.{values_inside}
use Rattle.lw_gramread.specs.ElementSteps.{begins_element, element_in, elements, row, rows, choice_inside}
use Rattle.lw_gramread.proofs.Loops.{Gathering}
use Rattle.lw_gramread.proofs.reader.elements.+choices.Given as goal

abbrev pub decreases-rows : goal.decreases-rows
decreases-rows l = 6 * l.depth + 5

abbrev pub decreases-row : goal.decreases-row
decreases-row l = 6 * l.depth + 4

abbrev pub decreases-elements : goal.decreases-elements
decreases-elements l = 6 * l.depth + 3

abbrev pub decreases-element : goal.decreases-element
decreases-element l = 6 * l.depth + 2

abbrev pub decreases-part : goal.decreases-part
decreases-part l = 6 * l.depth + 1

abbrev pub decreases-choice_inside : goal.decreases-choice_inside
decreases-choice_inside l = 6 * l.depth

abbrev pub invariant-rows-more : goal.invariant-rows-more
invariant-rows-more l = record {
  read : Gathering (sees sign.Bar) (skip >> one (row (values_inside l.depth) (choice_inside l.depth))) (rows (values_inside l.depth) (choice_inside l.depth) l.fn.left) l.rows l.left;
  shorter : length l.left ≤ length l.fn.left;
}

abbrev pub decreases-rows-more : goal.decreases-rows-more
decreases-rows-more l = length l.left

abbrev pub invariant-elements-more : goal.invariant-elements-more
invariant-elements-more l = record {
  read : Gathering (begins_element) (one (element_in (values_inside l.depth) (choice_inside l.depth))) (elements (values_inside l.depth) (choice_inside l.depth) l.fn.left) l.elements l.left;
  shorter : length l.left ≤ length l.fn.left;
}

abbrev pub decreases-elements-more : goal.decreases-elements-more
decreases-elements-more l = length l.left
