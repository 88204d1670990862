use Rattle.std.proofs.Common.{ap, sym, ◌∙◌}
use Rattle.lw_build.specs.Seen.{SeenView, seen_tree}
use Rattle.lw_build.proofs.Lending.{few_seen, tree_lent}
use Rattle.lw_build.proofs.seen.SeenViews.tree.Goals as goal

pub returns-clause-tree : goal.returns-clause-tree
returns-clause-tree c =
    c.tree.ensures ∙ sym (tree_lent c.self.inside.docs.now c.self.inside.readings.now c.self.inside.refs.now c.args.doc.0)
    ∙ ap (λ (v : SeenView). seen_tree v c.args.doc.0) c.self.view_is

pub returns-clause-few : goal.returns-clause-few
returns-clause-few c = few_seen c.self.inside.docs.now c.self.inside.readings.now c.self.invariant c.args.doc.0 c.tree.result c.tree.ensures
