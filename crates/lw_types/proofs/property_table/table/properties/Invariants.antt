use Rattle.std.proofs.Common.{map}
use Rattle.lw_types.specs.Seeing.{AreSeenProperties}
use Rattle.lw_types.proofs.property_table.table.properties.Given as goal

abbrev pub invariant-loop-number : goal.invariant-loop-number
invariant-loop-number l = AreSeenProperties l.source.g.now l.gatherings l.number (map (λ infos. infos.items) l.types.items)
