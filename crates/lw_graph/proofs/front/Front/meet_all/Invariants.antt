use Rattle.std.proofs.Common.{take}
use Rattle.lw_graph.specs.Growth.{Gains}
use Rattle.lw_graph.proofs.front.Front.meet_all.Given as goal

abbrev pub invariant-loop-node : goal.invariant-loop-node
invariant-loop-node l = Gains (take l.node-index l.nodes) l.fn.self l.self
