use Rattle.std.proofs.Common.{◌≡◌, Bool, true, false, not, refl, sym, subst, List, true≢false}
use Rattle.std.proofs.lemmas.Result.{IfOk-weaker}
use Rattle.lw_machine.specs.declared.published.Published.{Published}
use Rattle.lw_session.specs.Answering.{IsBuiltBehind, waits, builds}
use Rattle.lw_session.proofs.serving.build.Goals as goal

off : (b : Bool) → not b ≡ true → b ≡ false
off true is = absurd (true≢false (sym is))
off false is = refl

on : (b : Bool) → not b ≡ false → b ≡ true
on true is = refl
on false is = absurd (true≢false is)

pub returns-then-not-phase-clause-built : goal.returns-then-not-phase-clause-built
returns-then-not-phase-clause-built g c m agrees =
    subst (λ (lists : List Published). IsBuiltBehind c.args.workspace.now c.args.workspace.now c.args.phase m lists) (sym c.new.ensures)
    (waits (off c.args.phase.initialized c.if-not-phase.true) refl)

pub returns-clause-built : goal.returns-clause-built
returns-clause-built g c =
    IfOk-weaker c.advance.result _ _ (λ lists is m agrees. builds (on c.args.phase.initialized c.if-not-phase.false) (is m agrees)) c.advance.ensures.builds
