use Rattle.std.proofs.Common.{subst}
use Rattle.lw_program.specs.Making.{IsNameForm}
use Rattle.lw_program.proofs.Contents.{one_reader}
use Rattle.lw_program.proofs.recipes.content.read_form.Goals as goal

pub returns-in-Some : goal.returns-in-Some
returns-in-Some c = λ name form reads formed.
    let g = c.args.lexicon.g.now in
    c.name_form.ensures form
    (subst (λ name. IsNameForm g name form) (one_reader g c.args.wanted.now c.args.written.now name c.in-Some.name.now reads c.in-Some.ensures) formed)

pub returns-in-None : goal.returns-in-None
returns-in-None c = λ name form reads formed. absurd (c.in-None.ensures name reads)
