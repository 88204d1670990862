use Rattle.std.proofs.lemmas.Result.{on_ok_weaker}
use Rattle.lw_viable.specs.Turning as turn
use Rattle.lw_viable.proofs.sought.Sought.turn.Goals as goal

pub returns-in-Some-clause-turned : goal.returns-in-Some-clause-turned
returns-in-Some-clause-turned c =
    let (within, marks, rest, less) = c.in-Some.ensures in
    on_ok_weaker c.moves.result (λ moved. turn.moves within marks rest less moved) c.moves.ensures.moved
