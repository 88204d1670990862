use Rattle.lw_graph.specs.Ending.{KnowsEnded}
use Rattle.lw_graph.proofs.graph.Graph.leaves.Given as goal

abbrev pub invariant-loop-node : goal.invariant-loop-node
invariant-loop-node l = KnowsEnded l.self l.front
