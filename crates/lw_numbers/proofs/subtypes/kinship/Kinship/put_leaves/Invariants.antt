use Rattle.std.proofs.Common.{map}
use Rattle.lw_numbers.specs.Parts.{leaf_of}
use Rattle.lw_numbers.specs.Kin.{LeafLeads}
use Rattle.lw_numbers.specs.KinGraph.{HasRoomYet}
use Rattle.lw_numbers.proofs.Placing.{PutsFirstKin}
use Rattle.lw_numbers.proofs.subtypes.kinship.Kinship.put_leaves.Given as goal

abbrev pub invariant-loop-leaf : goal.invariant-loop-leaf
invariant-loop-leaf l = record {
  room : HasRoomYet l.g l.self;
  puts : PutsFirstKin (map leaf_of l.found) (λ k leaf. LeafLeads l.g l.number leaf) l.leaf-index l.initial.self l.self;
}
