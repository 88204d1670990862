use Rattle.lw_types.proofs.SetLemmas.{widens_then}
use Rattle.std.proofs.lemmas.Result.{on_ok_weaker}
use Rattle.lw_types.proofs.sets.put_low.Goals as goal

pub returns : goal.returns
returns c = on_ok_weaker c.put_above.result (λ above. widens_then c.in_ok-put.ensures above) c.put_above.ensures
