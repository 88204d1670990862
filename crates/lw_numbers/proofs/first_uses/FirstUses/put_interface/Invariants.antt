use Rattle.std.proofs.Common.{[], ◌∷◌, map, take}
use Rattle.lw_numbers.specs.FirstUses.{Puts}
use Rattle.lw_numbers.proofs.first_uses.FirstUses.put_interface.Given as goal

abbrev pub invariant-loop-attribute : goal.invariant-loop-attribute
invariant-loop-attribute l = Puts (l.interface.name ∷ []) (map (λ a. a.name) (take l.attribute-index l.interface.attributes)) l.fn.self l.self
