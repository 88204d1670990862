-- No loop stands there, and one does.
use Rattle.std.proofs.Common.{Some, sym, ◌∙◌, subst}
use Rattle.lw_program.specs.declared.instr.Instr.TheVariants.{Once}
use Rattle.lw_parse.specs.Deciding.{IsDecided}
use Rattle.lw_parse.specs.Running.{state_of}
use Rattle.lw_parse.specs.Running as run
use Rattle.lw_parse.proofs.run.Run.once.Goals as goal

pub returns-in-None : goal.returns-in-None
returns-in-None c = λ p. run.no_loop (λ point inner there. c.in-None.ensures point inner (c.instr_at.ensures ∙ there))

pub returns-in-Some : goal.returns-in-Some
returns-in-Some c = λ p.
    let (point, at) = c.in-Some.ensures in
    subst (IsDecided (state_of c.args.self.now) p (Some (Once c.args.rest))) (sym c.doing.ensures) (run.once {point = point} (sym c.instr_at.ensures ∙ at))
