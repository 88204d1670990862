-- The loop, or none.
use Rattle.std.proofs.Common.{[], ◌∷◌, None, sym, ◌∙◌}
use Rattle.std.proofs.lemmas.Result.{on_ok_weaker}
use Rattle.lw_viable.specs.Turning as turn
use Rattle.lw_viable.proofs.Made.{grows_none}
use Rattle.lw_viable.proofs.Putting.{put_none}
use Rattle.lw_viable.proofs.sought.Sought.once.Goals as goal

pub returns-in-None-clause-put : goal.returns-in-None-clause-put
returns-in-None-clause-put c =
    ([], turn.nowhere (λ point inner loops. c.in-None.ensures point inner (c.instr_at.ensures ∙ loops)), put_none (grows_none c.args.lists.now) c.args.front c.args.work.now.items)

pub returns-in-Some-clause-put : goal.returns-in-Some-clause-put
returns-in-Some-clause-put c =
    let (point, loops) = c.in-Some.ensures in
    on_ok_weaker c.put.result (λ put. ((None, c.in-Some.body ∷ c.args.rest ∷ []) ∷ [], turn.body (sym c.instr_at.ensures ∙ loops), put)) c.put.ensures.put
