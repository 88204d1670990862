use Rattle.std.proofs.Common.{map, take}
use Rattle.lw_properties.specs.Search.{AreFirsts, attributes_of}
use Rattle.lw_properties.proofs.attributes.first_attributes.Given as goal

abbrev pub invariant-loop-interface : goal.invariant-loop-interface
invariant-loop-interface l = AreFirsts (attributes_of (map (λ i. i.now) (take l.interface-index l.order))) l.firsts.by_name.entries
