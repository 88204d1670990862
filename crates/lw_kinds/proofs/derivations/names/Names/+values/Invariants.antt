use Rattle.std.proofs.Common.{drop}
use Rattle.lw_kinds.specs.Passing.{SomeValuePasses}
use Rattle.lw_kinds.proofs.derivations.names.Names.+values.Given as goal

abbrev pub invariant-some_value_passes-loop-value : goal.invariant-some_value_passes-loop-value
invariant-some_value_passes-loop-value l =
    SomeValuePasses l.self.g.now l.tokens l.flags l.values → SomeValuePasses l.self.g.now l.tokens l.flags (drop l.value-index l.values)
