use Rattle.std.proofs.Common.{refl}
use Rattle.lw_program.proofs.Contents.{told_by_terminal, told_by_rule, told_by_nothing, one_form}
use Rattle.lw_program.proofs.recipes.content.name_form.Goals as goal

pub returns-in-Terminal : goal.returns-in-Terminal
returns-in-Terminal c form is =
    let g = c.args.lexicon.g.now in
    let name = c.args.name.now in
    one_form g name
    (told_by_terminal g name c.in-Terminal.field-0 c.in-Terminal.terminal.now c.in-Terminal.ensures c.name_form_of_terminal.ensures.number c.name_form_of_terminal.ensures.words)
    is

pub returns-in-Rule : goal.returns-in-Rule
returns-in-Rule c form is =
    let g = c.args.lexicon.g.now in
    let name = c.args.name.now in one_form g name (told_by_rule g name c.in-Rule.field-0 c.in-Rule.field-1.now c.in-Rule.ensures refl) is

pub returns-in-Nothing : goal.returns-in-Nothing
returns-in-Nothing c form is =
    let g = c.args.lexicon.g.now in
    let name = c.args.name.now in one_form g name (told_by_nothing g name c.in-Nothing.ensures) is
