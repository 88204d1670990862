use Rattle.std.proofs.Common.{length, slice_get, ap, ◌∙◌, arith}
use Rattle.lw_tree.specs.Keyed.{values_of}
use Rattle.lw_tree.specs.Parts.{name_of, text_in}
use Rattle.lw_tree.proofs.Lasts.{says_name}
use Rattle.lw_tree.proofs.tree.Tree.name.Goals as goal

pub returns-in-None : goal.returns-in-None
returns-in-None c =
    says_name c.self.inside.name c.args.n.0 (length c.self.inside.nodes.items) c.self.inside.values c.self.inside.names _
    (omega (arith, c.requires, ap (λ p. length p.nodes) c.self.view_is)) c.self.invariant.3 c.in-None.ensures
    ∙ ap (λ p. name_of p c.args.n.0) c.self.view_is

pub returns-in-Some : goal.returns-in-Some
returns-in-Some c =
    c.text_at.ensures ∙ ap (λ l. text_in (slice_get (values_of l) c.in-Some.place)) c.all.ensures
    ∙ says_name c.self.inside.name c.args.n.0 (length c.self.inside.nodes.items) c.self.inside.values c.self.inside.names _
    (omega (arith, c.requires, ap (λ p. length p.nodes) c.self.view_is)) c.self.invariant.3 c.in-Some.ensures
    ∙ ap (λ p. name_of p c.args.n.0) c.self.view_is
