use Rattle.std.proofs.Common.{take}
use Rattle.lw_first.specs.Sets.{AddsHeads, IsAmongHeads}
use Rattle.lw_first.specs.New.{AreNew}
use Rattle.lw_first.proofs.fresh.put_new.Given as goal

abbrev pub invariant-loop-head : goal.invariant-loop-head
invariant-loop-head l = record {
  adds : AddsHeads (IsAmongHeads (take l.head-index l.heads)) l.fn.into l.into;
  new : AreNew l.fresh.items l.fn.into l.into;
}
