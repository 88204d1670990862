use Rattle.std.proofs.Common.{sym, subst}
use Rattle.lw_grammar.specs.Named.{declared_interface, declared_union}
use Rattle.lw_properties.proofs.Apart.{meant_apart}
use Rattle.lw_types.specs.Seeing.{AreUnfreeProperties, declared, neither}
use Rattle.lw_types.proofs.Meeting.{if_ok_then}
use Rattle.lw_types.proofs.property_table.table.unfree_properties.Goals as goal

pub returns-in-Interface : goal.returns-in-Interface
returns-in-Interface c =
    if_ok_then c.declared_properties.result (λ infos are. declared c.in-Interface.field-0 c.in-Interface.field-1.now c.in-Interface.ensures are) c.declared_properties.ensures

pub returns-in-Union : goal.returns-in-Union
returns-in-Union c =
    let g = c.args.source.now.g.now in
    let name = c.args.name.now in
    let u = c.in-Union in
    subst (AreUnfreeProperties g name) (sym c.new.ensures.items)
    (neither (λ i own is. meant_apart declared_interface declared_union name g.interfaces g.unions i u.field-0 own u.field-1.now is u.ensures))

pub returns-in-Nothing : goal.returns-in-Nothing
returns-in-Nothing c = subst (AreUnfreeProperties c.args.source.now.g.now c.args.name.now) (sym c.new-in-Nothing.ensures.items) (neither c.in-Nothing.ensures.0)
