use Rattle.std.proofs.Common.{take}
use Rattle.lw_types.specs.Seeing.{AddsTo, sightings_of}
use Rattle.lw_types.proofs.property_table.seeing.put_into_all.Given as goal

abbrev pub invariant-loop-number : goal.invariant-loop-number
invariant-loop-number l = AddsTo l.wanted (sightings_of l.put (take l.number-index l.types)) l.initial.gatherings l.gatherings
