use Rattle.lw_numbers.specs.Lists.{SomeBefore}
use Rattle.lw_numbers.specs.Spoken.{ExtendsBy, InterfaceSpeaks}
use Rattle.lw_numbers.proofs.subtypes.names.put_interfaces.Given as goal

abbrev pub invariant-loop-interface : goal.invariant-loop-interface
invariant-loop-interface l = ExtendsBy (λ name. SomeBefore l.interfaces l.interface-index (λ k interface. InterfaceSpeaks interface name)) l.initial.names.keys l.names.keys
