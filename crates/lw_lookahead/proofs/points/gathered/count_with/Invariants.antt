use Rattle.std.proofs.Common.{◌≡◌, ◌+◌, ◌-◌, ◌^◌, All, length, min, take}
use Rattle.std.specs.List.{sum_by}
use Rattle.lw_first.specs.Sets.{AreDistinctHeads}
use Rattle.lw_lookahead.proofs.points.gathered.count_with.Given as goal

abbrev pub invariant-loop-way : goal.invariant-loop-way
invariant-loop-way l = record {
  counted : l.strings ≡ min (l.fn.strings + sum_by length (take l.way-index l.ways)) (2 ^ 64 - 1);
  distinct : All AreDistinctHeads (take l.way-index l.ways);
}
