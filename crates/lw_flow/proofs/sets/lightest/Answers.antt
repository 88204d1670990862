use Rattle.std.proofs.Common.{ap, ◌∙◌}
use Rattle.lw_flow.specs.declared.effect.Effect.TheVariants.{Nothing}
use Rattle.lw_flow.specs.Sets.{lesser}
use Rattle.lw_flow.proofs.SetLemmas.{lightest_step}
use Rattle.lw_flow.proofs.sets.lightest.Goals as goal

pub loop-effect-preserved : goal.loop-effect-preserved
loop-effect-preserved c =
    lightest_step c.args.effects.now c.loop-effect.effect-index Nothing c.loop-effect.least c.lighter-least.result c.loop-effect-test.true c.loop-effect.invariant
    (c.lighter-least.ensures ∙ ap (lesser c.loop-effect.least) c.weight.ensures)
