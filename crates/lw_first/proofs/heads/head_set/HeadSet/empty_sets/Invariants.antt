use Rattle.std.proofs.Common.{◌≡◌, [], replicate}
use Rattle.lw_first.proofs.heads.head_set.HeadSet.empty_sets.Given as goal

abbrev pub invariant-loop : goal.invariant-loop
invariant-loop l = l.sets.items ≡ replicate l.counter []
