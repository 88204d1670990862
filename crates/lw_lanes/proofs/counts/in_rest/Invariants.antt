use Rattle.std.proofs.Common.{◌≡◌, ◌*◌, ◌≤◌, take, sum_by}
use Rattle.lw_lanes.proofs.counts.in_rest.Given as goal

abbrev pub invariant-loop-byte : goal.invariant-loop-byte
invariant-loop-byte g l = record {
  counted : l.total ≡ sum_by g.C.Counted.at (take l.byte-index l.rest);
  most : l.total ≤ 2 * l.byte-index;
}
