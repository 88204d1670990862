-- Both lists are in the one order and hold the same.
use Rattle.lw_faults.specs.Faults.{IsTypeFault, IsCheckFault}
use Rattle.lw_faults.proofs.Sorted.{one_list}
use Rattle.lw_faults.proofs.laws.one_list_of_faults.Goals as goal

pub returns : goal.returns
returns c = record { types = λ g. one_list (IsTypeFault g); checks = λ g. one_list (IsCheckFault g) }
