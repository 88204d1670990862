use Rattle.std.proofs.Common.{take}
use Rattle.lw_grammar.specs.Kinds.{Kinds, AreKinds}
use Rattle.lw_first.specs.Sets.{AddsHeads}
use Rattle.lw_first.specs.Forms.{ValuesBefore}
use Rattle.lw_first.proofs.first.First.+values.Given as goal

abbrev pub invariant-values-loop-value : goal.invariant-values-loop-value
invariant-values-loop-value l = (kinds : Kinds) → AreKinds l.self.lexicon.g.now kinds →
    AddsHeads (ValuesBefore l.self.lexicon.g.now kinds l.self.k l.self.heads.now (take l.value-index l.values) l.after) l.fn.into l.into
