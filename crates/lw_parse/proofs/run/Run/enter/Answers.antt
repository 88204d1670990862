-- Neither a token nor a call.
use Rattle.std.proofs.Common.{arith, sym, ◌∙◌}
use Rattle.std.proofs.lemmas.Grind.{common_steps}
use Rattle.std.proofs.lemmas.Option.{none-some}
use Rattle.lw_program.specs.declared.instr.Instr.TheVariants.{Token, Call}
use Rattle.lw_parse.specs.Running as run
use Rattle.lw_parse.proofs.run.Run.enter.Goals as goal

pub returns-in_default : goal.returns-in_default
returns-in_default c = run.no_call c.args.instr (λ k same. grind (arith, common_steps)) (λ r same. grind (arith, common_steps))

pub returns-in_default-2 : goal.returns-in_default-2
returns-in_default-2 c =
    run.no_call c.args.instr (λ k same. none-some (Token k) (sym c.in_default.is ∙ same)) (λ r same. none-some (Call r) (sym c.in_default.is ∙ same))
