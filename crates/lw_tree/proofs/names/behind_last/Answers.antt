use Rattle.std.proofs.Common.{ap}
use Rattle.lw_tree.proofs.Lasts.{no_last, no_node, one_last, other_prop}
use Rattle.lw_tree.proofs.names.behind_last.Goals as goal
use Rattle.lw_tree.proofs.names.behind_last.Goals.{then-entry-prop+then-node-count, else-entry-prop, else-entry-prop-via-then-entry-prop+else-node-count, else-entry-prop-via-else-entry-prop}

pub loop-place-preserved : goal.loop-place-preserved
loop-place-preserved c =
    elim c.if-entry-prop.branch [
      | then-entry-prop+then-node-count w ↦ one_last c.args.prop.0 c.args.count c.args.entries.now c.loop-place.place _ _ c.loop-place.behind.items _
          c.loop-place-test.true c.index-entries-place.is w.if-entry-prop.true w.if-node-count.true (ap (λ v. v.items) w.behind-is) c.loop-place.invariant
      | else-entry-prop w ↦ no_last c.args.prop.0 c.args.count c.args.entries.now c.loop-place.place _ _ c.loop-place.behind.items _
          c.loop-place-test.true c.index-entries-place.is
          (elim w.else-entry-prop.branch [
            | else-entry-prop-via-then-entry-prop+else-node-count w' ↦ λ n lt. no_node n c.args.prop.0 c.args.count _ w'.if-node-count.false lt
            | else-entry-prop-via-else-entry-prop w' ↦ λ n lt. other_prop n c.args.prop.0 _ w'.if-entry-prop.false
          ])
          (ap (λ v. v.items) w.behind-is) c.loop-place.invariant
    ]
