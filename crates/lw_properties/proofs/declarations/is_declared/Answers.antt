use Rattle.std.proofs.Common.{inl, inr, refl, subst}
use Rattle.std.proofs.lemmas.Bool.{false≢true}
use Rattle.lw_grammar.specs.Subtypes.{by_interface, by_union}
use Rattle.lw_numbers.specs.Numbering.{MeansType}
use Rattle.lw_properties.proofs.declarations.is_declared.Goals as goal

pub returns-in-Interface : goal.returns-in-Interface
returns-in-Interface c =
    let g = c.args.g.now in
    let name = c.args.name.now in (
      λ _. elim c.in-Interface.is [
        | inl at ↦ by_interface at.0 at.1.now (subst (MeansType g name) at.2 c.declared.ensures)
        | inr at ↦ by_union at.0 at.1.now (subst (MeansType g name) at.2 c.declared.ensures)
      ],
      λ _. refl,
    )

pub returns-in-Nothing : goal.returns-in-Nothing
returns-in-Nothing c = (λ h. absurd (false≢true h), λ is. absurd (elim is [ by_interface i own meant ↦ c.in-Nothing.ensures.0 i own meant | by_union u union meant ↦ c.in-Nothing.ensures.1 u union meant ]))
