use Rattle.std.proofs.Common.{◌≡◌}
use Rattle.lw_numbers.specs.Lists.{SomeBefore}
use Rattle.lw_numbers.specs.Spoken.{ExtendsBy}
use Rattle.lw_numbers.proofs.subtypes.names.put_above.Given as goal

abbrev pub invariant-loop-name : goal.invariant-loop-name
invariant-loop-name l = ExtendsBy (λ name. SomeBefore l.name-items l.name-index (λ k above. name ≡ above.0)) l.initial.names.keys l.names.keys
