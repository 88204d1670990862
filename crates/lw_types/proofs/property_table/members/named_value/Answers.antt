use Rattle.std.proofs.Common.{sym, ◌∙◌, subst}
use Rattle.std.proofs.lemmas.Bool.{false≢true}
use Rattle.lw_grammar.specs.declared.declared_types.Member.TheVariants.{Named}
use Rattle.lw_types.specs.Values.{MemberGives, nodes, no_nodes}
use Rattle.lw_types.proofs.property_table.members.named_value.Goals as goal

pub returns-then-has_no_nodes : goal.returns-then-has_no_nodes
returns-then-has_no_nodes c s = no_nodes c.requires.no_union (c.has_no_nodes.ensures.0 c.if-has_no_nodes.true)

pub returns-else-has_no_nodes : goal.returns-else-has_no_nodes
returns-else-has_no_nodes c s =
    let g = c.args.source.now.g.now in
    subst (MemberGives g (Named c.args.name.now s)) (sym (c.nodes_of.ensures g c.requires.source.numbers))
    (nodes c.requires.no_union (λ text. false≢true (sym c.if-has_no_nodes.false ∙ c.has_no_nodes.ensures.1 text)))
