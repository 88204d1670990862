use Rattle.std.proofs.Common.{ℕ, ◌+◌, List, sym, subst}
use Rattle.lw_numbers.specs.Above.{AreRows}
use Rattle.lw_numbers.proofs.Rows.{rows_more}
use Rattle.lw_numbers.proofs.subtypes.subtypes.rows.Goals as goal

pub loop-number-preserved : goal.loop-number-preserved
loop-number-preserved c =
    let graph = c.args.graph.now in
    let n = c.loop-number.number in
    subst (AreRows graph c.args.count (n + 1)) (sym {A = List (List ℕ)} c.in_ok-push.ensures.items)
    (rows_more graph c.args.count n c.loop-number.rows.items c.in_ok-row.field-0 c.loop-number.invariant c.in_ok-row.ensures)
