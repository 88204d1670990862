use Rattle.std.proofs.Common.{◌≡◌, ◌++◌, map, take}
use Rattle.std.specs.List.{flat_map}
use Rattle.lw_numbers.specs.Parts.{value_leaf_of}
use Rattle.lw_types.specs.NameUses.{use_of, value_uses}
use Rattle.lw_types.proofs.naming.mentions.put_parts.Given as goal

abbrev pub invariant-loop-part : goal.invariant-loop-part
invariant-loop-part l =
    map use_of l.found.items ≡ map use_of l.fn.found.items ++ flat_map (λ part. value_uses l.file (value_leaf_of part)) (take l.part-index l.parts)
