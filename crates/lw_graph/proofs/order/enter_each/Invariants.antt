use Rattle.std.proofs.Common.{ℕ, ◌<◌, All}
use Rattle.lw_graph.specs.Order.{IsStepWithin}
use Rattle.lw_graph.proofs.order.enter_each.Given as goal

abbrev pub invariant-loop-node : goal.invariant-loop-node
invariant-loop-node l = (n : ℕ) → All (λ node. node < n) l.nodes → All (IsStepWithin n) l.fn.waiting.items → All (IsStepWithin n) l.waiting.items
