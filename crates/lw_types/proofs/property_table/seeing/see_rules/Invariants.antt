use Rattle.std.proofs.Common.{take}
use Rattle.lw_types.specs.Sightings.{Along, SeenInRule}
use Rattle.lw_types.specs.Seeing.{Sees}
use Rattle.lw_types.proofs.property_table.seeing.see_rules.Given as goal

abbrev pub invariant-loop-number : goal.invariant-loop-number
invariant-loop-number l =
    Sees l.wanted (Along (SeenInRule l.source.g.now) (take l.number l.source.g.now.rules) (take l.number l.ways)) l.initial.gatherings l.gatherings
