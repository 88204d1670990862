use Rattle.std.proofs.Common.{take}
use Rattle.lw_faults.specs.Finding.{Finds, OfSome}
use Rattle.lw_types.specs.Attributes.{RepeatsAttribute}
use Rattle.lw_types.proofs.naming.attributes.find_second_attributes.Given as goal

abbrev pub invariant-loop-interface : goal.invariant-loop-interface
invariant-loop-interface l = Finds (OfSome RepeatsAttribute (take l.interface-index l.interfaces)) l.fn.found l.found
