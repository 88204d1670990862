use Rattle.std.proofs.Common.{All}
use Rattle.lw_graph.specs.Order.{IsStepWithin}
use Rattle.lw_graph.proofs.order.starts.Given as goal

abbrev pub invariant-loop-node : goal.invariant-loop-node
invariant-loop-node l = All (IsStepWithin l.nodes) l.waiting.items
