use Rattle.lw_link_rules.proofs.Read.{stands_apart}
use Rattle.lw_link_rules.proofs.distinct.laws.values_stand_apart.Goals as goal

pub returns : goal.returns
returns c = λ g text tree no_type_fault no_check_fault reads. stands_apart g no_type_fault no_check_fault text tree reads
