use Rattle.std.proofs.Common.{◌≡◌, ◌≤◌, length}
use Rattle.lw_viable.specs.EmptyBy.{AreEmptyFrom, NameLater}
use Rattle.lw_viable.proofs.begins.empty_places.empty_places.Given as goal

abbrev pub invariant-places : goal.invariant-places
invariant-places l = record {
  within : l.left ≤ length l.code;
  sized : length l.empty.items ≡ length l.code;
  told : NameLater l.code → AreEmptyFrom l.calls l.code l.empty.items l.left;
}

abbrev pub decreases-places : goal.decreases-places
decreases-places l = l.left
