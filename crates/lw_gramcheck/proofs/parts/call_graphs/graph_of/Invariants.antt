use Rattle.std.proofs.Common.{◌≡◌, ◌↔◌, ℕ, Contains, take}
use Rattle.lw_graph.specs.Walks.{HasEdge}
use Rattle.lw_gramcheck.proofs.parts.call_graphs.graph_of.Given as goal

abbrev pub invariant-loop-edge : goal.invariant-loop-edge
invariant-loop-edge l = record {
  nodes : l.graph.nodes ≡ l.fn.nodes;
  edges : (a b : ℕ) → HasEdge l.graph a b ↔ Contains (take l.edge-index l.edges) (a, b);
}
