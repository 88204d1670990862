use Rattle.std.proofs.Common.{◌≡◌, length}
use Rattle.lw_graph.specs.Ending.{KnowsEnded}
use Rattle.lw_graph.specs.Growth.{nodes_left}
use Rattle.lw_graph.proofs.graph.Graph.ended.Given as goal

abbrev pub invariant-ending : goal.invariant-ending
invariant-ending l = record {
  knows : KnowsEnded l.self l.front;
  counts : length l.counts.items ≡ l.self.nodes;
}

abbrev pub decreases-ending : goal.decreases-ending
decreases-ending l = nodes_left l.front
