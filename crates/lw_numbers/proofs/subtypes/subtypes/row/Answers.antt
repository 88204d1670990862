use Rattle.std.proofs.Common.{◌+◌, sym, ◌∙◌, subst, true≢false}
use Rattle.lw_numbers.specs.Above.{IsRow}
use Rattle.lw_numbers.proofs.Rows.{row_more, row_same, reached_from_one}
use Rattle.lw_numbers.proofs.subtypes.subtypes.row.Goals as goal
use Rattle.lw_numbers.proofs.subtypes.subtypes.row.Goals.{then-holds+in_ok-push, else-holds}

pub loop-number-preserved : goal.loop-number-preserved
loop-number-preserved c =
    let graph = c.args.graph.now in
    let from = c.args.from in
    let n = c.loop-number.number in
    let before = c.loop-number.row.items in
    elim c.if-holds.branch [
      | then-holds+in_ok-push w ↦ subst (λ v. IsRow graph (n + 1) from v.items) (sym w.row-is)
          (subst (IsRow graph (n + 1) from) (sym w.in_ok-push.ensures.items)
          (row_more graph from n before c.loop-number.invariant ((reached_from_one graph from n).0 ((c.in_ok-met.ensures n).0 (c.holds.ensures.0 w.if-holds.true)))))
      | else-holds w ↦ subst (λ v. IsRow graph (n + 1) from v.items) (sym w.row-is)
          (row_same graph from n before c.loop-number.invariant
          (λ walks. true≢false (sym (c.holds.ensures.1 ((c.in_ok-met.ensures n).1 ((reached_from_one graph from n).1 walks))) ∙ w.if-holds.false)))
    ]
