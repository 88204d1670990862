use Rattle.lw_flow.specs.declared.effect.Effect.TheVariants.{Nothing}
use Rattle.lw_flow.specs.declared.effect.Mark.TheVariants.{Done}
use Rattle.lw_flow.proofs.SetLemmas.{done_step, done_end}
use Rattle.lw_flow.proofs.sets.lightest_done.Goals as goal

pub loop-mark-preserved : goal.loop-mark-preserved
loop-mark-preserved c =
    done_step c.args.marks.now c.loop-mark.mark-index (Done Nothing) c.loop-mark.least c.lighter_done-least.result c.loop-mark-test.true c.loop-mark.invariant
    c.lighter_done-least.ensures

pub returns : goal.returns
returns c = done_end c.args.marks.now c.loop-mark.mark-index c.loop-mark.least c.loop-mark-test.false c.loop-mark.invariant
