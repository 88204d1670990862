use Rattle.lw_properties.specs.Asked.{Asks}
use Rattle.lw_properties.proofs.Asking.{some_none}
use Rattle.lw_properties.proofs.questions.holds_of_some.Goals as goal

pub loop-number-init : goal.loop-number-init
loop-number-init c = some_none c.args.known.now.g.now (Asks c.args.known.now.g.now c.args.question)
