use Rattle.std.proofs.Common.{map, take}
use Rattle.std.specs.List.{flat_map}
use Rattle.lw_numbers.specs.FirstUses.{Puts, attribute_names}
use Rattle.lw_numbers.proofs.first_uses.FirstUses.put_interfaces.Given as goal

abbrev pub invariant-loop-interface : goal.invariant-loop-interface
invariant-loop-interface l =
    Puts (map (λ i. i.name) (take l.interface-index l.interfaces)) (flat_map attribute_names (take l.interface-index l.interfaces)) l.fn.self l.self
