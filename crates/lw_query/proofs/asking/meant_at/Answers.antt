-- A place leads where its answer does.
use Rattle.std.proofs.Common.{sym, subst}
use Rattle.lw_link_rules.specs.Links.{IsNumberBelow}
use Rattle.lw_query.proofs.Meant.{IsMeantBy, meant_by_place, missing_without_tree}
use Rattle.lw_query.proofs.asking.meant_at.Goals as goal

pub returns-in-None : goal.returns-in-None
returns-in-None g c grammar trees address views stands =
    let v = c.args.v.now in
    missing_without_tree (IsNumberBelow grammar) (g.V.Views.tree_at v) (g.V.Views.answers_at v) (g.V.Views.Stands v) trees views c.args.doc.0 address
    c.args.off stands (sym c.in-None.ensures.tree)

pub returns-in-Some : goal.returns-in-Some
returns-in-Some g c grammar trees address views stands =
    let v = c.args.v.now in
    let meant = meant_by_place (IsNumberBelow grammar) (g.V.Views.tree_at v) (g.V.Views.answers_at v) (g.V.Views.Stands v) trees views c.args.doc address
    stands c.in-Some.tree.now (sym c.in-Some.ensures.tree) c.args.off c.place_at.result c.place_at.ensures in
    subst (IsMeantBy (IsNumberBelow grammar) (g.V.Views.tree_at v) (g.V.Views.answers_at v) (g.V.Views.Stands v) trees views address c.args.off)
    (sym c.answer_at.ensures) meant
