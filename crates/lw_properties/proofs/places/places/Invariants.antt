use Rattle.std.proofs.Common.{[], map}
use Rattle.lw_faults.specs.Finding.{Finds}
use Rattle.lw_properties.specs.Places.{spot_of}
use Rattle.lw_properties.proofs.Standing.{ComesBefore}
use Rattle.lw_properties.proofs.places.places.Given as goal

abbrev pub invariant-loop-number : goal.invariant-loop-number
invariant-loop-number l = Finds (ComesBefore l.g l.ways l.number) [] (map spot_of l.places.items)
