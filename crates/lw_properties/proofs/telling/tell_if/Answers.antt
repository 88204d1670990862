use Rattle.lw_faults.proofs.Joining.{Finds-where}
use Rattle.lw_properties.proofs.telling.tell_if.Goals as goal

pub returns-in_ok-add : goal.returns-in_ok-add
returns-in_ok-add c = Finds-where _ _ c.if-so.true c.in_ok-add.ensures
