use Rattle.lw_numbers.specs.Lists.{SomeBefore}
use Rattle.lw_numbers.specs.Spoken.{ExtendsBy, UnionSpeaks}
use Rattle.lw_numbers.proofs.subtypes.names.put_unions.Given as goal

abbrev pub invariant-loop-union : goal.invariant-loop-union
invariant-loop-union l = ExtendsBy (λ name. SomeBefore l.unions l.union-index (λ k union. UnionSpeaks union name)) l.initial.names.keys l.names.keys
