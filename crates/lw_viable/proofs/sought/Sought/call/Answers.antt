-- A call where the kind cannot come next, a rule without a start, and one that is entered.
use Rattle.std.proofs.Common.{[], ◌∷◌}
use Rattle.std.proofs.lemmas.Result.{on_ok_weaker}
use Rattle.lw_viable.specs.Turning as turn
use Rattle.lw_viable.proofs.Made.{grows_none}
use Rattle.lw_viable.proofs.Putting.{put_none}
use Rattle.lw_viable.proofs.sought.Sought.call.Goals as goal

pub returns-then-misses-clause-put : goal.returns-then-misses-clause-put
returns-then-misses-clause-put c =
    ([], turn.misses (c.misses.ensures c.if-misses.true), put_none (grows_none c.args.lists.now) c.args.front c.args.work.now.items)

pub returns-in-None-clause-put : goal.returns-in-None-clause-put
returns-in-None-clause-put c = ([], turn.nowhere c.in-None.ensures, put_none (grows_none c.args.lists.now) c.args.front c.args.work.now.items)

pub returns-in-Some-clause-put : goal.returns-in-Some-clause-put
returns-in-Some-clause-put c = on_ok_weaker c.enter.result (λ (change, enters, put). (change ∷ [], turn.enters c.in-Some.ensures enters, put)) c.enter.ensures.put
