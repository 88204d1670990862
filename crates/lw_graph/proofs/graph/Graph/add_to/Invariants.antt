use Rattle.std.proofs.Common.{◌≡◌}
use Rattle.lw_graph.proofs.graph.Graph.add_to.Given as goal

abbrev pub invariant-loop-node : goal.invariant-loop-node
invariant-loop-node l = l.self.nodes ≡ l.fn.self.nodes
