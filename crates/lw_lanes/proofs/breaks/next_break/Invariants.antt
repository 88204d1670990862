use Rattle.std.proofs.Common.{◌≡◌, ◌≤◌, ◌-◌, length}
use Rattle.lw_lanes.specs.LineBreak.{next_break}
use Rattle.lw_lanes.proofs.breaks.next_break.Given as goal

abbrev pub invariant-whole : goal.invariant-whole
invariant-whole l = record {
  within : l.at ≤ length l.bytes;
  same : next_break l.bytes l.at ≡ next_break l.bytes l.fn.from;
}

abbrev pub decreases-whole : goal.decreases-whole
decreases-whole l = length l.bytes - l.at
