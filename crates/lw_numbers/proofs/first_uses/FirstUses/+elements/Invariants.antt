use Rattle.std.proofs.Common.{take}
use Rattle.std.specs.List.{flat_map}
use Rattle.lw_numbers.specs.FirstUses.{Puts, types_in, properties_in}
use Rattle.lw_numbers.proofs.first_uses.FirstUses.+elements.Given as goal

abbrev pub invariant-put_elements-loop-element : goal.invariant-put_elements-loop-element
invariant-put_elements-loop-element l =
    Puts (flat_map types_in (take l.element-index l.elements)) (flat_map properties_in (take l.element-index l.elements)) l.fn.self l.self
