use Rattle.std.proofs.Common.{All, take}
use Rattle.lw_graph.specs.Walks.{HasNode}
use Rattle.lw_graph.proofs.graph.Graph.is_ended.Given as goal

abbrev pub invariant-loop-next : goal.invariant-loop-next
invariant-loop-next l = All (HasNode l.front.met.items) (take l.next-index l.next-items)
