use Rattle.lw_grammar.specs.Named.{declared_interface, declared_union}
use Rattle.lw_grammar.proofs.Meaning.{one_of_two}
use Rattle.lw_types.proofs.naming.names.KnownNames.interface_place.Goals as goal

pub returns-in-Union : goal.returns-in-Union
returns-in-Union c =
    let g = c.args.self.now.g.now in
    λ i x is.
    one_of_two declared_interface declared_union c.args.name.now g.interfaces g.unions i c.in-Union.field-0 x c.in-Union.field-1.now is c.in-Union.ensures
