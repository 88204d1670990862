use Rattle.std.proofs.Common.{map, take}
use Rattle.lw_faults.specs.Finding.{Finds, OfSome}
use Rattle.lw_properties.specs.Places.{spot_of}
use Rattle.lw_properties.specs.Told.{NotBelowAt}
use Rattle.lw_properties.proofs.below.find_not_below.Given as goal

abbrev pub invariant-loop-place : goal.invariant-loop-place
invariant-loop-place l = Finds (OfSome (NotBelowAt l.known.g.now) (map spot_of (take l.place-index l.places))) l.initial.found l.found
