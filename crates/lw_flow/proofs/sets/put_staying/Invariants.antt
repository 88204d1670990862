use Rattle.std.proofs.Common.{◌≡◌, take}
use Rattle.lw_flow.specs.Sets.{AddsFrom, Stays}
use Rattle.lw_flow.proofs.sets.put_staying.Given as goal

abbrev pub invariant-loop-mark : goal.invariant-loop-mark
invariant-loop-mark l = AddsFrom (λ n m. (m ≡ n) × Stays n l.weight) l.initial.set.keys (take l.mark-index l.marks) l.set.keys
