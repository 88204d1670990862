use Rattle.std.proofs.Common.{◌≡◌, ◌++◌, map, take}
use Rattle.std.specs.List.{flat_map}
use Rattle.lw_types.specs.NameUses.{use_of, named_uses}
use Rattle.lw_types.proofs.naming.mentions.put_named.Given as goal

abbrev pub invariant-loop-name : goal.invariant-loop-name
invariant-loop-name l =
    map use_of l.found.items ≡ map use_of l.fn.found.items ++ flat_map (named_uses l.file) (take l.name-index l.named)
