-- The rule names one type.
use Rattle.lw_faults.specs.Worked.{place}
use Rattle.lw_faults.proofs.NamesWorked.{nowhere_inferred, type_inferred}
use Rattle.lw_faults.proofs.laws.unknown_types.Goals as goal

pub returns : goal.returns
returns c = record { nowhere_inferred = nowhere_inferred (place 19 22); inferred = type_inferred }
