-- What is meant has a name, and its spot is that of the name.
use Rattle.std.proofs.Common.{sym, subst}
use Rattle.lw_link_rules.specs.Links.{IsNumberBelow}
use Rattle.lw_query.proofs.Meant.{IsDefinedBy, node_defined, nothing_defined}
use Rattle.lw_query.proofs.asking.definition.Goals as goal

pub returns-in-Missing : goal.returns-in-Missing
returns-in-Missing g c grammar trees address views stands =
    let v = c.args.v.now in
    nothing_defined (IsNumberBelow grammar) (g.V.Views.tree_at v) (g.V.Views.answers_at v) (g.V.Views.Stands v) trees views address c.args.off
    (c.in-Missing.ensures grammar trees address views stands)

pub returns-in-Found : goal.returns-in-Found
returns-in-Found g c grammar trees address views stands =
    let v = c.args.v.now in
    let defined = node_defined (IsNumberBelow grammar) (g.V.Views.tree_at v) (g.V.Views.answers_at v) (g.V.Views.Stands v) trees views address c.args.off
    c.in-Found.target (c.in-Found.ensures grammar trees address views stands) in
    subst (IsDefinedBy (IsNumberBelow grammar) (g.V.Views.tree_at v) (g.V.Views.answers_at v) (g.V.Views.Stands v) trees views address c.args.off)
    (sym c.name_spot.ensures) defined
