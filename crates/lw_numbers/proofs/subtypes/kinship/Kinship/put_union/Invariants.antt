use Rattle.lw_numbers.specs.Kin.{MemberLeads}
use Rattle.lw_numbers.specs.KinGraph.{HasRoomForNames}
use Rattle.lw_numbers.proofs.Placing.{PutsFirstKin}
use Rattle.lw_numbers.proofs.subtypes.kinship.Kinship.put_union.Given as goal

abbrev pub invariant-loop-member : goal.invariant-loop-member
invariant-loop-member l = record {
  room : HasRoomForNames l.self;
  puts : PutsFirstKin l.member-items (λ k member. MemberLeads l.union member) l.member-index l.initial.self l.self;
}
