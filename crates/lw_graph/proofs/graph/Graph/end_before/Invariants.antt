use Rattle.std.proofs.Common.{◌≡◌}
use Rattle.lw_graph.specs.Ending.{KnowsEnded}
use Rattle.lw_graph.specs.Growth.{nodes_left}
use Rattle.lw_graph.proofs.graph.Graph.end_before.Given as goal

abbrev pub invariant-loop-node : goal.invariant-loop-node
invariant-loop-node l = record {
  knows : KnowsEnded l.self l.front;
  left : nodes_left l.front ≡ nodes_left l.fn.front;
}
