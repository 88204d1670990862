use Rattle.std.proofs.Common.{[], ◌∷◌, take}
use Rattle.lw_first.specs.Sets.{AddsHeads}
use Rattle.lw_first.specs.Forms.{HeadBefore}
use Rattle.lw_first.proofs.first.First.token.Given as goal

abbrev pub invariant-loop-head : goal.invariant-loop-head
invariant-loop-head l = AddsHeads (HeadBefore l.self.k (l.kind.0 ∷ []) (take l.head-index l.after)) l.fn.into l.into
