use Rattle.std.proofs.Common.{take}
use Rattle.lw_properties.specs.Asked.{SomeType, Asks}
use Rattle.lw_properties.proofs.questions.holds_of_some.Given as goal

abbrev pub invariant-loop-number : goal.invariant-loop-number
invariant-loop-number l = ¬ SomeType l.known.g.now (Asks l.known.g.now l.question) (take l.number-index l.types)
