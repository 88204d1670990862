use Rattle.lw_lang.proofs.Places.{type_fault_placed, check_fault_placed}
use Rattle.lw_lang.proofs.told.laws.faults_have_places.Goals as goal

pub returns-clause-types : goal.returns-clause-types
returns-clause-types c = λ texts g stands f is. type_fault_placed texts g stands f is

pub returns-clause-checks : goal.returns-clause-checks
returns-clause-checks c = λ texts g stands root f is. check_fault_placed texts g stands root f is
