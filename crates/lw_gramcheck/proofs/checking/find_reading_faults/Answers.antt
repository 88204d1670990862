use Rattle.std.proofs.lemmas.Result.{on_ok_weaker}
use Rattle.lw_gramcheck.proofs.CheckPhase.{reading_found}
use Rattle.lw_gramcheck.proofs.checking.find_reading_faults.Goals as goal

pub returns : goal.returns
returns c = on_ok_weaker c.find_order_faults.result (λ order. reading_found c.args.g.now c.in_ok-find_derivation_faults.ensures order) c.find_order_faults.ensures
