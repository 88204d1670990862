-- The first way, the second, and neither.
use Rattle.std.proofs.Common.{Some, arith, sym, ap, ◌∙◌, subst}
use Rattle.std.proofs.lemmas.Grind.{common_steps}
use Rattle.std.proofs.lemmas.Option.{none-some}
use Rattle.lw_program.specs.declared.instr.Instr.TheVariants.{Loop}
use Rattle.lw_parse.specs.Deciding.{IsDecided}
use Rattle.lw_parse.specs.Running.{state_of, IsWayBy}
use Rattle.lw_parse.specs.Running as run
use Rattle.lw_parse.proofs.run.Run.choose_again.Goals as goal

pub returns-in-Some-eq1 : goal.returns-in-Some-eq1
returns-in-Some-eq1 c =
    let state = state_of c.args.self.now in
    let by = subst (IsWayBy state.parser state.unread c.args.point) (c.in-Some-eq1.is ∙ ap Some c.in-Some-eq1.field-0-test) c.way.ensures in
    subst (IsDecided state c.args.place (Some (Loop c.args.point c.args.body))) (sym c.doing.ensures) (run.again by)

pub returns-in-Some-eq2 : goal.returns-in-Some-eq2
returns-in-Some-eq2 c =
    let state = state_of c.args.self.now in
    let by = subst (IsWayBy state.parser state.unread c.args.point) (c.in-Some-eq2.is ∙ ap Some c.in-Some-eq2.field-0-test) c.way.ensures in
    subst (IsDecided state c.args.place (Some (Loop c.args.point c.args.body))) (sym c.doing-in-Some-eq2.ensures) (run.leaves by)

pub returns-in_default : goal.returns-in_default
returns-in_default c =
    run.neither_again c.way.ensures (λ one. first_of (cc, grind (arith, common_steps))) (λ two. first_of (cc, grind (arith, common_steps)))

pub returns-in_default-2 : goal.returns-in_default-2
returns-in_default-2 c =
    run.neither_again c.way.ensures (λ one. none-some 1 (sym c.in_default.is ∙ one)) (λ two. none-some 2 (sym c.in_default.is ∙ two))
