use Rattle.std.proofs.Common.{arith}
use Rattle.lw_lanes.proofs.Counting.{sum-as_chunks, sum-at_most_two}
use Rattle.lw_lanes.proofs.counts.total.Goals as goal

pub overflow_add-result : goal.overflow_add-result
overflow_add-result g c =
    let all = sum-as_chunks g.C.Counted.at 32 c.args.bytes.now _ _ c.as_chunks.ensures.front c.as_chunks.ensures.back in
    omega (arith, all, c.in_blocks.ensures, c.in_rest.ensures, sum-at_most_two g.C.Counted.at g.met.C.Counted.at_most_two c.args.bytes.now)

pub returns : goal.returns
returns g c =
    let all = sum-as_chunks g.C.Counted.at 32 c.args.bytes.now _ _ c.as_chunks.ensures.front c.as_chunks.ensures.back in
    omega (arith, all, c.in_blocks.ensures, c.in_rest.ensures)
