use Rattle.std.proofs.Common.{take}
use Rattle.lw_first.specs.Heads.{kinds_in}
use Rattle.lw_first.specs.Sets.{AddsHeads}
use Rattle.lw_first.specs.Forms.{HeadBefore}
use Rattle.lw_first.proofs.first.First.followed.Given as goal

abbrev pub invariant-loop-behind : goal.invariant-loop-behind
invariant-loop-behind l = AddsHeads (HeadBefore l.self.k (kinds_in l.head) (take l.behind-index l.after)) l.fn.into l.into
