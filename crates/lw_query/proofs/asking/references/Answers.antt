-- What is gathered are the mentions of what is meant.
use Rattle.lw_link_rules.specs.Links.{IsNumberBelow}
use Rattle.lw_places.specs.Mentions.{mentioned, nothing_meant}
use Rattle.lw_query.proofs.Meant.{found_there, nothing_meant_by}
use Rattle.lw_query.proofs.Mentioned.{are_mentions}
use Rattle.lw_query.proofs.asking.references.Goals as goal

pub returns-in-Missing : goal.returns-in-Missing
returns-in-Missing g c grammar trees address views same stands =
    let v = c.args.v.now in
    nothing_meant
    (nothing_meant_by (IsNumberBelow grammar) (g.V.Views.tree_at v) (g.V.Views.answers_at v) (g.V.Views.Stands v) trees views address c.args.off
    (c.in-Missing.ensures grammar trees address views stands))

pub returns-in_ok-gather-in-Found : goal.returns-in_ok-gather-in-Found
returns-in_ok-gather-in-Found g c grammar trees address views same stands =
    let v = c.args.v.now in
    let f = found_there (IsNumberBelow grammar) (g.V.Views.tree_at v) (g.V.Views.answers_at v) (g.V.Views.Stands v) trees views address c.args.off
    c.in-Found.target (c.in-Found.ensures grammar trees address views stands) in
    let (mentions, zipped, are) = are_mentions (IsNumberBelow grammar) (g.V.Views.tree_at v) (g.V.Views.answers_at v) (g.V.Views.Stands v) trees views
    c.args.refs.now same c.args.declaration c.in-Found.target f.there f.stands f.tree f.is_tree f.has_name.in_tree c.in_ok-gather-in-Found.field-0
    c.in_ok-gather-in-Found.ensures in
    (mentions, zipped, mentioned f.meant are)
