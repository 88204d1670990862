use Rattle.lw_base.specs.declared.numbers.PropId.{PropId}
use Rattle.lw_numbers.specs.Numbering.{property_names}
use Rattle.lw_program.proofs.OnePlace.{number_told}
use Rattle.lw_program.proofs.recipes.numbering.property_number.Goals as goal

pub returns : goal.returns
returns c =
    let g = c.args.lexicon.g.now in
    number_told (λ (id : PropId). id.0) (property_names g) c.args.name.now c.prop.result (c.prop.ensures g c.requires.known.numbers)
