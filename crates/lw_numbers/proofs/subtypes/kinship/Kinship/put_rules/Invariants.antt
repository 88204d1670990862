use Rattle.lw_numbers.specs.Kin.{RuleLeads}
use Rattle.lw_numbers.specs.KinGraph.{HasRoomYet}
use Rattle.lw_numbers.proofs.Placing.{PutsFirstKin}
use Rattle.lw_numbers.proofs.subtypes.kinship.Kinship.put_rules.Given as goal

abbrev pub invariant-loop-number : goal.invariant-loop-number
invariant-loop-number l = record {
  room : HasRoomYet l.g l.self;
  puts : PutsFirstKin l.rule-items (λ k rule. RuleLeads l.g k rule) l.number l.initial.self l.self;
}
