use Rattle.std.proofs.Common.{◌≡◌, ◌<◌, ◌⊎◌, length, take}
use Rattle.lw_first.specs.Sets.{AddsHeads, IsAmongHeads}
use Rattle.lw_first.proofs.heads.head_set.HeadSet.insert_all.Given as goal

-- the heads so far were added, and either none was new or the set grew
abbrev pub invariant-loop-head : goal.invariant-loop-head
invariant-loop-head l = record {
  adds : AddsHeads (IsAmongHeads (take l.head-index l.heads)) l.fn.self l.self;
  grows : (l.self ≡ l.fn.self) ⊎ (length l.fn.self < length l.self);
}
