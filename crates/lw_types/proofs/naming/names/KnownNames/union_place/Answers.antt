use Rattle.lw_grammar.specs.Named.{declared_interface, declared_union}
use Rattle.lw_grammar.proofs.Meaning.{one_of_two}
use Rattle.lw_types.proofs.naming.names.KnownNames.union_place.Goals as goal

pub returns-in-Interface : goal.returns-in-Interface
returns-in-Interface c =
    let g = c.args.self.now.g.now in
    λ u x is.
    one_of_two declared_union declared_interface c.args.name.now g.unions g.interfaces u c.in-Interface.field-0 x c.in-Interface.field-1.now is
    c.in-Interface.ensures
