use Rattle.std.proofs.Common.{take, Contains}
use Rattle.lw_types.specs.Sets.{WidensSets}
use Rattle.lw_types.proofs.sets.put_above.Given as goal

abbrev pub invariant-loop-high : goal.invariant-loop-high
invariant-loop-high l = WidensSets (Contains (take l.high-index l.above)) l.low l.fn.sets.items l.sets.items
