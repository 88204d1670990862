use Rattle.std.proofs.Common.{ℕ, ◌≡◌, ◌<◌, ◌↔◌, length}
use Rattle.lw_graph.specs.Walks.{HasNode, GoesRound}
use Rattle.lw_graph.proofs.graph.Graph.circles.Given as goal

abbrev pub invariant-loop-node : goal.invariant-loop-node
invariant-loop-node l = record {
  size : length l.flags.items ≡ l.node;
  told : (n : ℕ) → n < l.node → HasNode l.flags.items n ↔ GoesRound l.self n;
}
