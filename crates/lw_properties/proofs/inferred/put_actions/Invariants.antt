use Rattle.std.proofs.Common.{map, take}
use Rattle.lw_faults.specs.Finding.{Finds, OfSome}
use Rattle.lw_properties.specs.Places.{spot_of}
use Rattle.lw_properties.specs.Mixing.{InfersAt}
use Rattle.lw_properties.proofs.inferred.put_actions.Given as goal

abbrev pub invariant-loop-place : goal.invariant-loop-place
invariant-loop-place l = Finds (OfSome InfersAt (map spot_of (take l.place-index l.places))) l.initial.names.keys l.names.keys
