use Rattle.std.proofs.Common.{◌∙◌}
use Rattle.lw_graph.proofs.Edges.{edge_within}
use Rattle.lw_graph.proofs.graph.Graph.nodes.Goals as goal

pub returns-clause-within : goal.returns-clause-within
returns-clause-within c =
    let rows = c.self.inside.rows in
    let len = c.len.ensures ∙ rows.ok.0 in
    rw (← c.self.view_is) (rw len (edge_within rows.items c.self.invariant))
