use Rattle.std.proofs.Common.{◌≡◌}
use Rattle.lw_graph.proofs.graph.Graph.turned.Given as goal

abbrev pub invariant-loop-node : goal.invariant-loop-node
invariant-loop-node l = l.turned.nodes ≡ l.self.nodes
