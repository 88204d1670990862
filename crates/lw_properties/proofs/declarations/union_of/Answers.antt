use Rattle.std.proofs.Common.{inl, inr, subst}
use Rattle.lw_grammar.specs.Named.{declared_interface, declared_union}
use Rattle.lw_numbers.specs.Numbering.{MeansType}
use Rattle.lw_properties.proofs.Apart.{meant_apart}
use Rattle.lw_properties.proofs.declarations.union_of.Goals as goal

pub returns-in-Interface : goal.returns-in-Interface
returns-in-Interface c u union is =
    let g = c.args.g.now in
    let name = c.args.name.now in
    elim c.in-Interface.is [
      | inl at ↦ meant_apart declared_interface declared_union name g.interfaces g.unions at.0 u at.1.now union (subst (MeansType g name) at.2 c.declared.ensures) is
      | inr none ↦ (subst (MeansType g name) none c.declared.ensures).1 u union is
    ]
