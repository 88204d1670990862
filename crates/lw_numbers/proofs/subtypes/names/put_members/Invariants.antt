use Rattle.lw_numbers.specs.Lists.{SomeBefore}
use Rattle.lw_numbers.specs.Spoken.{ExtendsBy, NamesMember}
use Rattle.lw_numbers.proofs.subtypes.names.put_members.Given as goal

abbrev pub invariant-loop-member : goal.invariant-loop-member
invariant-loop-member l = ExtendsBy (λ name. SomeBefore l.member-items l.member-index (λ k member. NamesMember member name)) l.initial.names.keys l.names.keys
