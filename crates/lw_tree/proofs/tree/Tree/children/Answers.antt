use Rattle.std.proofs.Common.{ap}
use Rattle.lw_tree.proofs.Families.{is_node, own_children}
use Rattle.lw_tree.proofs.tree.Tree.children.Goals as goal

pub at-requires : goal.at-requires
at-requires c = is_node c.self.inside.nodes.items c.args.self.now.nodes c.self.inside.children c.args.n.0 c.self.invariant.2
    (ap (λ p. p.nodes) c.self.view_is) c.requires

pub returns : goal.returns
returns c = own_children c.self.inside.nodes.items c.args.self.now.nodes c.self.inside.children c.args.n.0 _ c.self.invariant.2
    (ap (λ p. p.nodes) c.self.view_is) c.requires c.at.ensures
