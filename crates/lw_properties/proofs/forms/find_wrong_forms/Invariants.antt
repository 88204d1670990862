use Rattle.std.proofs.Common.{map, take}
use Rattle.lw_faults.specs.Finding.{Finds, OfSome}
use Rattle.lw_properties.specs.Places.{spot_of}
use Rattle.lw_properties.specs.Told.{MisformedAt}
use Rattle.lw_properties.proofs.forms.find_wrong_forms.Given as goal

abbrev pub invariant-loop-place : goal.invariant-loop-place
invariant-loop-place l = Finds (OfSome (MisformedAt l.known.g.now) (map spot_of (take l.place-index l.places))) l.initial.found l.found
