use Rattle.std.proofs.Common.{take}
use Rattle.lw_properties.proofs.Knowing.{KnowsOf}
use Rattle.lw_properties.proofs.attributes.Attributes.of.Given as goal

abbrev pub invariant-loop-interface : goal.invariant-loop-interface
invariant-loop-interface l = KnowsOf l.g (take l.interface-index l.interface-items) l.attributes
