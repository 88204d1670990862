use Rattle.std.proofs.Common.{[], ◌∷◌, sym, subst}
use Rattle.lw_grammar.specs.declared.declared_types.Member.TheVariants as member
use Rattle.lw_grammar.specs.declared.declared_types.ValueKind.TheVariants.{Plain}
use Rattle.lw_grammar.specs.declared.terminal.Primitive.TheVariants.{Text}
use Rattle.lw_properties.specs.Kinds.{NamesUnion}
use Rattle.lw_types.specs.Seeing.{list_of}
use Rattle.lw_types.specs.Values.{MemberGives, references, plain, literal}
use Rattle.lw_types.proofs.property_table.members.member_value.Goals as goal

pub named_value-requires-clause-no_union : goal.named_value-requires-clause-no_union
named_value-requires-clause-no_union c u union is = c.requires.no_union u union (subst (λ m. NamesUnion c.args.source.now.g.now m u union) (sym c.in-Named.is) is)

pub returns-in-Refers : goal.returns-in-Refers
returns-in-Refers c =
    let g = c.args.source.now.g.now in
    let r = c.in-Refers in
    subst (λ m. MemberGives g m (list_of c.refs_to.result)) (sym r.is)
    (subst (MemberGives g (member.Refers r.name r.field-1)) (sym (c.refs_to.ensures g c.requires.source.numbers)) references)

pub returns-in-Plain : goal.returns-in-Plain
returns-in-Plain c = subst (λ m. MemberGives c.args.source.now.g.now m (Plain c.in-Plain.primitive ∷ [])) (sym c.in-Plain.is) plain

pub returns-in-Literal : goal.returns-in-Literal
returns-in-Literal c = subst (λ m. MemberGives c.args.source.now.g.now m (Plain Text ∷ [])) (sym c.in-Literal.is) literal
