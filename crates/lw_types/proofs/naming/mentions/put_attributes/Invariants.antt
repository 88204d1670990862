use Rattle.std.proofs.Common.{◌≡◌, ◌++◌, map, take}
use Rattle.std.specs.List.{flat_map}
use Rattle.lw_types.specs.NameUses.{use_of, attribute_uses}
use Rattle.lw_types.proofs.naming.mentions.put_attributes.Given as goal

abbrev pub invariant-loop-attribute : goal.invariant-loop-attribute
invariant-loop-attribute l =
    map use_of l.found.items ≡ map use_of l.fn.found.items ++ flat_map (attribute_uses l.file) (take l.attribute-index l.attributes)
