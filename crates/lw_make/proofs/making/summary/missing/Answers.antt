use Rattle.lw_make.proofs.Counting.{one_counted}
use Rattle.lw_make.proofs.making.summary.missing.Goals as goal

pub answers-preserved : goal.answers-preserved
answers-preserved c =
    let step = one_counted c.args.answers.now c.answers.answer-index c.answers.count c.nowhere-count.result _ c.answers-test.true c.nowhere-count.ensures
    c.answers.invariant.counted c.answers.invariant.few in
    record { counted = step.0; few = step.1 }
