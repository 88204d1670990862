use Rattle.std.proofs.Common.{take}
use Rattle.lw_flow.specs.Sets.{IsLightestDone}
use Rattle.lw_flow.proofs.sets.lightest_done.Given as goal

abbrev pub invariant-loop-mark : goal.invariant-loop-mark
invariant-loop-mark l = IsLightestDone (take l.mark-index l.marks) l.least
