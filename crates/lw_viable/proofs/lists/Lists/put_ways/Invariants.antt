-- What was put on so far.
use Rattle.std.proofs.Common.{◌≡◌, ◌-◌, ◌≤◌, ◌⊎◌, map}
use Rattle.lw_viable.specs.Growing.{GrowsLists, ArePut}
use Rattle.lw_viable.specs.Moves.{side_by_side}
use Rattle.lw_viable.specs.Turning.{way_change}
use Rattle.lw_viable.proofs.lists.Lists.put_ways.Given as goal

abbrev pub invariant-loop-place : goal.invariant-loop-place
invariant-loop-place l = record {
  below : (l.place ≤ l.end) ⊎ (l.place ≡ l.first);
  grows : GrowsLists l.fn.self l.self;
  put : ArePut (map way_change (side_by_side l.first (l.place - l.first))) l.fn.self l.self l.front l.fn.fronts.items l.fronts.items;
}
