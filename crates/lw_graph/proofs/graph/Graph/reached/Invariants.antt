use Rattle.lw_graph.specs.Growth.{nodes_left}
use Rattle.lw_graph.proofs.Spreading.{IsSpreading}
use Rattle.lw_graph.proofs.graph.Graph.reached.Given as goal

abbrev pub invariant-reaching : goal.invariant-reaching
invariant-reaching l = IsSpreading l.self l.starts l.front

abbrev pub decreases-reaching : goal.decreases-reaching
decreases-reaching l = nodes_left l.front
