-- The first way, the second, and neither.
use Rattle.std.proofs.Common.{Some, arith, sym, ap, ◌∙◌, subst}
use Rattle.std.proofs.lemmas.Grind.{common_steps}
use Rattle.std.proofs.lemmas.Option.{none-some}
use Rattle.lw_program.specs.declared.instr.Instr.TheVariants.{Maybe}
use Rattle.lw_parse.specs.Deciding.{IsDecided}
use Rattle.lw_parse.specs.Running.{state_of, IsWayBy}
use Rattle.lw_parse.specs.Running as run
use Rattle.lw_parse.proofs.run.Run.choose_part.Goals as goal

pub returns-in-Some-eq1 : goal.returns-in-Some-eq1
returns-in-Some-eq1 c = λ p.
    let state = state_of c.args.self.now in
    let by = subst (IsWayBy state.parser state.unread c.args.point) (c.in-Some-eq1.is ∙ ap Some c.in-Some-eq1.field-0-test) c.way.ensures in
    subst (IsDecided state p (Some (Maybe c.args.point c.args.body))) (sym c.doing.ensures) (run.enters_part by)

pub returns-in-Some-eq2 : goal.returns-in-Some-eq2
returns-in-Some-eq2 c = λ p.
    let state = state_of c.args.self.now in
    let by = subst (IsWayBy state.parser state.unread c.args.point) (c.in-Some-eq2.is ∙ ap Some c.in-Some-eq2.field-0-test) c.way.ensures in
    subst (IsDecided state p (Some (Maybe c.args.point c.args.body))) (sym c.doing-in-Some-eq2.ensures) (run.passes_part by)

pub returns-in_default : goal.returns-in_default
returns-in_default c = λ p.
    run.neither_part c.way.ensures (λ one. first_of (cc, grind (arith, common_steps))) (λ two. first_of (cc, grind (arith, common_steps)))

pub returns-in_default-2 : goal.returns-in_default-2
returns-in_default-2 c = λ p.
    run.neither_part c.way.ensures (λ one. none-some 1 (sym c.in_default.is ∙ one)) (λ two. none-some 2 (sym c.in_default.is ∙ two))
