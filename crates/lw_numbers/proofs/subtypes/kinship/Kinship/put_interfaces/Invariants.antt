use Rattle.lw_numbers.specs.Kin.{InterfaceLeads}
use Rattle.lw_numbers.specs.KinGraph.{HasRoomYet}
use Rattle.lw_numbers.proofs.Placing.{PutsFirstKin}
use Rattle.lw_numbers.proofs.subtypes.kinship.Kinship.put_interfaces.Given as goal

abbrev pub invariant-loop-number : goal.invariant-loop-number
invariant-loop-number l = record {
  room : HasRoomYet l.g l.self;
  puts : PutsFirstKin l.interface-items (λ k interface. InterfaceLeads l.g k interface) l.number l.initial.self l.self;
}
