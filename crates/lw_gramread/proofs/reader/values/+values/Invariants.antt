use Rattle.std.proofs.Common.{◌+◌, ◌*◌, ◌≤◌, length}
use Rattle.lw_gramlex.specs.declared.token.Symbol.TheVariants as sign
use Rattle.lw_gramread.specs.Steps.{◌>>◌, sees, skip, one}
use Rattle.lw_gramread.specs.ValueSteps.{bare_value, values, values_inside}
use Rattle.lw_gramread.proofs.Loops.{Gathering}
use Rattle.lw_gramread.proofs.reader.values.+values.Given as goal

abbrev pub decreases-values : goal.decreases-values
decreases-values l = 3 * l.depth + 2

abbrev pub decreases-value : goal.decreases-value
decreases-value l = 3 * l.depth + 1

abbrev pub decreases-values_inside : goal.decreases-values_inside
decreases-values_inside l = 3 * l.depth

abbrev pub invariant-values-more : goal.invariant-values-more
invariant-values-more l = record {
  read : Gathering (sees sign.Bar) (skip >> one (bare_value (values_inside l.depth))) (values (values_inside l.depth) l.fn.left) l.values l.left;
  shorter : length l.left ≤ length l.fn.left;
}

abbrev pub decreases-values-more : goal.decreases-values-more
decreases-values-more l = length l.left
