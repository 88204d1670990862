use Rattle.lw_builder.proofs.ClosingSteps.{root_closed}
use Rattle.lw_builder.proofs.builder.Builder.close.Goals as goal

pub returns-clause-closed : goal.returns-clause-closed
returns-clause-closed c = λ g x closing.
    root_closed g c.closing.self x (c.is_whole.ensures.0 c.closing-test.false) (c.closing.invariant.all g x closing)
