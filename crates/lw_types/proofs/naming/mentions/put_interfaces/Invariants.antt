use Rattle.std.proofs.Common.{◌≡◌, ◌++◌, map, take}
use Rattle.std.specs.List.{flat_map}
use Rattle.lw_types.specs.NameUses.{use_of, interface_uses}
use Rattle.lw_types.proofs.naming.mentions.put_interfaces.Given as goal

abbrev pub invariant-loop-interface : goal.invariant-loop-interface
invariant-loop-interface l =
    map use_of l.found.items ≡ map use_of l.fn.found.items ++ flat_map interface_uses (take l.interface-index l.interfaces)
