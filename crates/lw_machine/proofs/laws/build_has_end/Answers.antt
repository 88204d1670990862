-- While a document is not validated a step can be taken, and each lowers how many are left.
use Rattle.lw_machine.proofs.HasEnd.{has_end}
use Rattle.lw_machine.proofs.laws.build_has_end.Goals as goal

pub returns : goal.returns
returns c = has_end
