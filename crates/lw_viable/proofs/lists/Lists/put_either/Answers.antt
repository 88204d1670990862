use Rattle.std.proofs.lemmas.Result.{on_ok_weaker}
use Rattle.lw_viable.proofs.Putting.{put_on}
use Rattle.lw_viable.proofs.lists.Lists.put_either.Goals as goal

pub returns-clause-put : goal.returns-clause-put
returns-clause-put c =
    on_ok_weaker c.put-2.result (λ b. put_on c.put.ensures.grows c.put-2.ensures.grows c.requires c.in_ok-put.ensures.put b) c.put-2.ensures.put
