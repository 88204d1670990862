-- No token, another one, and this one.
use Rattle.std.proofs.Common.{◌≡◌, Some, not, sym, ap, ◌∙◌, subst, eq-eqb, true≢false, arith}
use Rattle.std.proofs.lemmas.Bool.Decides.{nat_tests}
use Rattle.lw_base.specs.declared.numbers.KindId.{KindId}
use Rattle.lw_program.specs.declared.instr.Instr.TheVariants.{Token}
use Rattle.lw_parse.specs.Deciding.{IsStepBy}
use Rattle.lw_parse.specs.Running.{state_of}
use Rattle.lw_parse.specs.Running as run
use Rattle.lw_parse.proofs.Reading.{no_token, another_token, that_token}
use Rattle.lw_parse.proofs.run.Run.read.Goals as goal

pub returns-in_err-next : goal.returns-in_err-next
returns-in_err-next c =
    subst (IsStepBy (state_of c.args.self.now) (Some (Token c.args.kind))) (sym c.from_residual.ensures)
    (run.other_token (λ ls. no_token c.args.self.now.unread.now c.args.kind.0 ls c.in_err-next.ensures.value))

pub returns-then-ne : goal.returns-then-ne
returns-then-ne c =
    run.other_token (λ ls.
    another_token c.args.self.now.unread.now c.in_ok-next.next.now c.args.kind ls c.in_ok-next.ensures.value
    (λ same. true≢false (sym c.if-ne.true ∙ c.ne.ensures ∙ ap not (eq-eqb c.in_ok-next.next.now.0 c.args.kind.0 (ap (λ (kind : KindId). kind.0) same)))))

pub returns : goal.returns
returns c =
    let same : c.in_ok-next.next.now.0 ≡ c.args.kind.0 = grind (arith, nat_tests) in
    run.reads (that_token c.args.self.now.unread.now c.in_ok-next.next.now c.args.kind c.in_ok-next.ensures.value same)
