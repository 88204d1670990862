use Rattle.std.proofs.Common.{ℕ, ◌<◌, [], get_or, length, All, sym, ap, ◌∙◌, subst}
use Rattle.std.proofs.lemmas.List.{get_or_read}
use Rattle.std.proofs.lemmas.List.Elements.{All-get_or, All-same}
use Rattle.lw_graph.specs.Walks.{Links}
use Rattle.lw_graph.proofs.graph.Graph.successors.Goals as goal

pub returns-clause-edges : goal.returns-clause-edges
returns-clause-edges c =
    let rows = c.self.inside.rows.items in
    let inside = subst (λ n. c.args.node < n) (sym (ap (λ (g : Links). g.nodes) c.self.view_is)) c.requires in
    c.as_slice.ensures ∙ get_or_read rows c.args.node c.index.result.now inside c.index.ensures [] ∙ ap (λ (g : Links). get_or g.successors c.args.node []) c.self.view_is

pub returns-clause-within : goal.returns-clause-within
returns-clause-within c =
    let rows = c.self.inside.rows.items in
    let nodes = ap (λ (g : Links). g.nodes) c.self.view_is in
    let inside = subst (λ n. c.args.node < n) (sym nodes) c.requires in
    let within = λ (next : ℕ). next < c.args.self.now.nodes in
    All-same within c.as_slice.result.now (get_or rows c.args.node []) (c.as_slice.ensures ∙ get_or_read rows c.args.node c.index.result.now inside c.index.ensures [])
    (subst (λ n. All (λ next. next < n) (get_or rows c.args.node [])) nodes (All-get_or (All (λ next. next < length rows)) rows c.args.node [] inside c.self.invariant))
