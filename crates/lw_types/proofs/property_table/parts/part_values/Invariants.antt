use Rattle.std.proofs.Common.{map, take}
use Rattle.lw_numbers.specs.Parts.{value_leaf_of}
use Rattle.lw_types.specs.Values.{PartsGive}
use Rattle.lw_types.proofs.property_table.parts.part_values.Given as goal

abbrev pub invariant-loop-part : goal.invariant-loop-part
invariant-loop-part l = PartsGive l.source.g.now (map value_leaf_of (take l.part-index l.part-items)) l.values.items
