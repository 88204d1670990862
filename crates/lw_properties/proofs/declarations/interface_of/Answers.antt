use Rattle.std.proofs.Common.{inl, inr, subst}
use Rattle.lw_grammar.specs.Named.{declared_interface, declared_union}
use Rattle.lw_numbers.specs.Numbering.{MeansType}
use Rattle.lw_properties.proofs.Apart.{meant_apart}
use Rattle.lw_properties.proofs.declarations.interface_of.Goals as goal

pub returns-in-Union : goal.returns-in-Union
returns-in-Union c i own is =
    let g = c.args.g.now in
    let name = c.args.name.now in
    elim c.in-Union.is [
      | inl at ↦ meant_apart declared_interface declared_union name g.interfaces g.unions i at.0 own at.1.now is (subst (MeansType g name) at.2 c.declared.ensures)
      | inr none ↦ (subst (MeansType g name) none c.declared.ensures).0 i own is
    ]
