use Rattle.lw_base.specs.declared.numbers.TypeId.{TypeId}
use Rattle.lw_numbers.specs.Numbering.{type_names}
use Rattle.lw_program.proofs.OnePlace.{number_told}
use Rattle.lw_program.proofs.recipes.numbering.type_number.Goals as goal

pub returns : goal.returns
returns c =
    let g = c.args.lexicon.g.now in
    number_told (λ (id : TypeId). id.0) (type_names g) c.args.name.now c.type_of.result (c.type_of.ensures g c.requires.known.numbers)
