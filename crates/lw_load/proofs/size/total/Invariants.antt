use Rattle.std.proofs.Common.{◌≡◌, min, ◌^◌, ◌-◌, sum_by, take}
use Rattle.lw_load.proofs.size.total.Given as goal

abbrev pub invariant-loop-part : goal.invariant-loop-part
invariant-loop-part g l = l.total ≡ min (sum_by g.T.HasSize.measured (take l.part-index l.parts)) (2 ^ 64 - 1)
