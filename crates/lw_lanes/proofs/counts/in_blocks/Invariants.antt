use Rattle.std.proofs.Common.{◌≡◌, ◌*◌, ◌≤◌, ℕ, List, take, sum_by}
use Rattle.lw_lanes.proofs.counts.in_blocks.Given as goal

abbrev pub invariant-loop-block : goal.invariant-loop-block
invariant-loop-block g l = record {
  counted : l.total ≡ sum_by (λ (block : List ℕ). sum_by g.C.Counted.at block) (take l.block-index l.blocks);
  most : l.total ≤ 64 * l.block-index;
}
