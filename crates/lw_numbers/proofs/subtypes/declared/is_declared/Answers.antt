use Rattle.std.proofs.Common.{refl}
use Rattle.lw_grammar.specs.Subtypes.{by_interface, by_union}
use Rattle.lw_numbers.proofs.subtypes.declared.is_declared.Goals as goal

pub returns-in-Interface : goal.returns-in-Interface
returns-in-Interface c = (λ told. by_interface c.in-Interface.field-0 c.in-Interface.field-1.now c.in-Interface.ensures, λ declared. refl)

pub returns-in-Union : goal.returns-in-Union
returns-in-Union c = (λ told. by_union c.in-Union.field-0 c.in-Union.field-1.now c.in-Union.ensures, λ declared. refl)
