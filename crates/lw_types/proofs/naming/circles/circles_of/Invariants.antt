use Rattle.std.proofs.Common.{◌≡◌, ◌↔◌, ℕ, Contains, take}
use Rattle.lw_graph.specs.Walks.{HasEdge}
use Rattle.lw_types.proofs.naming.circles.circles_of.Given as goal

abbrev pub invariant-loop-from : goal.invariant-loop-from
invariant-loop-from l = record {
  places : l.graph.nodes ≡ l.places;
  edge : (a b : ℕ) → HasEdge l.graph a b ↔ Contains (take l.from-index l.edges) (a, b);
}
