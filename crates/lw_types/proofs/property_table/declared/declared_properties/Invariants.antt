use Rattle.std.proofs.Common.{[], map, take}
use Rattle.lw_properties.specs.Search.{attributes_of}
use Rattle.lw_types.specs.Having.{AreDeclaredIn}
use Rattle.lw_types.proofs.property_table.declared.declared_properties.Given as goal

abbrev pub invariant-loop-interface : goal.invariant-loop-interface
invariant-loop-interface l = AreDeclaredIn l.source.g.now (attributes_of (map (λ i. i.now) (take l.interface-index l.interface-items))) [] l.gathering
