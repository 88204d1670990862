use Rattle.std.proofs.Common.{◌≡◌, take}
use Rattle.lw_types.specs.Sightings.{known_nodes}
use Rattle.lw_types.proofs.property_table.seeing.current_nodes.Given as goal

abbrev pub invariant-loop-number : goal.invariant-loop-number
invariant-loop-number l = l.values.items ≡ known_nodes l.source.g.now (take l.number-index l.number-items)
