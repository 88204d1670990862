use Rattle.std.proofs.Common.{take}
use Rattle.lw_first.specs.Sets.{AddsHeads}
use Rattle.lw_first.specs.Forms.{FollowedBefore}
use Rattle.lw_first.proofs.first.First.all_followed.Given as goal

abbrev pub invariant-loop-head : goal.invariant-loop-head
invariant-loop-head l = AddsHeads (FollowedBefore l.self.k (take l.head-index l.heads) l.after) l.fn.into l.into
