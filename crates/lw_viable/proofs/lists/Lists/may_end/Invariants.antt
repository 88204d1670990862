-- The places before those that are left may read nothing.
use Rattle.std.proofs.Common.{◌↔◌}
use Rattle.std.specs.List.{AllByRecursion}
use Rattle.lw_viable.specs.Growing.{HasLists, read}
use Rattle.lw_viable.specs.Turning.{MayBePassed}
use Rattle.lw_viable.proofs.lists.Lists.may_end.Given as goal

abbrev pub invariant-places : goal.invariant-places
invariant-places l = record {
  within : HasLists l.self l.rest;
  same : AllByRecursion (MayBePassed l.begins) (read l.self l.rest).rest ↔ AllByRecursion (MayBePassed l.begins) (read l.self l.fn.front).rest;
}

abbrev pub decreases-places : goal.decreases-places
decreases-places l = l.rest.rest.0
