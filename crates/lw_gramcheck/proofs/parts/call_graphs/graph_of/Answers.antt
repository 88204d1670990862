use Rattle.std.proofs.Common.{◌∙◌}
use Rattle.lw_gramcheck.proofs.GraphLemmas.{just_none, just_more, just_all, edge_below}
use Rattle.lw_gramcheck.proofs.parts.call_graphs.graph_of.Goals as goal

pub loop-edge-init : goal.loop-edge-init
loop-edge-init c = record { nodes = c.in_ok-graph.ensures.nodes; edges = just_none c.in_ok-graph.graph c.in_ok-graph.ensures.empty }

pub add-requires-clause-from_in : goal.add-requires-clause-from_in
add-requires-clause-from_in c =
    (edge_below c.args.edges.now c.loop-edge.edge-index c.loop-edge.graph.nodes c.args.nodes c.loop-edge.invariant.nodes c.requires c.loop-edge-test.true).0

pub add-requires-clause-to_in : goal.add-requires-clause-to_in
add-requires-clause-to_in c =
    (edge_below c.args.edges.now c.loop-edge.edge-index c.loop-edge.graph.nodes c.args.nodes c.loop-edge.invariant.nodes c.requires c.loop-edge-test.true).1

pub loop-edge-preserved : goal.loop-edge-preserved
loop-edge-preserved c = record {
  nodes = c.add.ensures.nodes ∙ c.loop-edge.invariant.nodes;
  edges =
      just_more c.args.edges.now c.loop-edge.edge-index c.loop-edge.graph c.add.new.self c.loop-edge-test.true c.loop-edge.invariant.edges
      c.in_ok-add.ensures.edges;
}

pub returns : goal.returns
returns c = just_all c.args.edges.now c.loop-edge.edge-index c.loop-edge.graph c.loop-edge-test.false c.loop-edge.invariant.edges
