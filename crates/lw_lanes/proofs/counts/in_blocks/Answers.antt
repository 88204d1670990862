use Rattle.std.proofs.Common.{ℕ, List, [], get_or, sum_by, arith}
use Rattle.std.proofs.lemmas.List.Sums.{sum_by_more}
use Rattle.lw_lanes.proofs.Counting.{sum-at_most_two}
use Rattle.lw_lanes.proofs.counts.in_blocks.Goals as goal

pub overflow_add-total : goal.overflow_add-total
overflow_add-total g c =
    let few = sum-at_most_two g.C.Counted.at g.met.C.Counted.at_most_two (get_or c.args.blocks.now c.loop-block.block-index []) in
    omega (arith, few, c.told-blocks c.loop-block.block-index c.loop-block-test.true, c.in_block-total.ensures)

pub loop-block-preserved : goal.loop-block-preserved
loop-block-preserved g c =
    let few = sum-at_most_two g.C.Counted.at g.met.C.Counted.at_most_two (get_or c.args.blocks.now c.loop-block.block-index []) in
    record {
      counted = omega (arith, sum_by_more (λ (block : List ℕ). sum_by g.C.Counted.at block) c.args.blocks.now c.loop-block.block-index [] c.loop-block-test.true, c.in_block-total.ensures);
      most = omega (arith, few, c.told-blocks c.loop-block.block-index c.loop-block-test.true, c.in_block-total.ensures);
    }
