use Rattle.std.proofs.Common.{sym, subst}
use Rattle.lw_reading.specs.Numbers.{IsNumberOfType}
use Rattle.lw_program.proofs.OnePlace.{found_number}
use Rattle.lw_program.proofs.recipes.numbering.opened_type.Goals as goal

pub returns-in-Some : goal.returns-in-Some
returns-in-Some c name n has typed =
    let g = c.args.lexicon.g.now in
    let own = c.in-Some.name.now in
    found_number g own n c.type_number.result c.type_number.ensures
    (subst (λ name. IsNumberOfType g name n) (sym (c.in-Some.ensures g name has)) typed)

pub returns-in-None : goal.returns-in-None
returns-in-None c name n has typed = absurd (c.in-None.ensures c.args.lexicon.g.now name has)
