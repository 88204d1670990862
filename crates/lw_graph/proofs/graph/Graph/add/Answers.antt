use Rattle.std.proofs.Common.{◌<◌, [], ◌∷◌, ◌++◌, sym, ap, ◌∙◌, subst}
use Rattle.lw_graph.proofs.Edges.{one_edge_more}
use Rattle.std.proofs.lemmas.List.{get_or_read}
use Rattle.lw_graph.proofs.graph.Graph.add.Goals as goal

pub returns-clause-edges : goal.returns-clause-edges
returns-clause-edges c =
    let rows = c.self.inside.rows.items in
    let inside = subst (λ n. c.args.from < n) (sym (ap (λ g. g.nodes) c.self.view_is)) c.requires.from_in in
    let row = c.in_ok-push.ensures.ok ∙ ap (λ r. r ++ c.args.to ∷ []) (get_or_read rows c.args.from c.index_mut-row.result.now inside c.index_mut-row.ensures.value []) in
    rw (← c.self.view_is) (one_edge_more rows c.args.from c.args.to c.push.new.self inside row)
