use Rattle.lw_numbers.specs.Kin.{UnionLeads}
use Rattle.lw_numbers.specs.KinGraph.{HasRoomYet}
use Rattle.lw_numbers.proofs.Placing.{PutsFirstKin}
use Rattle.lw_numbers.proofs.subtypes.kinship.Kinship.put_unions.Given as goal

abbrev pub invariant-loop-number : goal.invariant-loop-number
invariant-loop-number l = record {
  room : HasRoomYet l.g l.self;
  puts : PutsFirstKin l.union-items (λ k union. UnionLeads l.g k union) l.number l.initial.self l.self;
}
