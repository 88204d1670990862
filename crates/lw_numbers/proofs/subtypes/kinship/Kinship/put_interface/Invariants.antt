use Rattle.lw_numbers.specs.Kin.{OfType, IsEdge}
use Rattle.lw_numbers.specs.KinGraph.{HasRoomForNames}
use Rattle.lw_numbers.proofs.Placing.{PutsFirstKin}
use Rattle.lw_numbers.proofs.subtypes.kinship.Kinship.put_interface.Given as goal

abbrev pub invariant-loop-above : goal.invariant-loop-above
invariant-loop-above l = record {
  room : HasRoomForNames l.self;
  puts : PutsFirstKin l.above-items (λ k above. IsEdge (OfType l.interface.name) (OfType above.0)) l.above-index l.initial.self l.self;
}
