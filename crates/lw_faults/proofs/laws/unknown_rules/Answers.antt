-- The rule makes one call.
use Rattle.lw_faults.proofs.NamesWorked.{value_found, crossed, terminal}
use Rattle.lw_faults.proofs.laws.unknown_rules.Goals as goal

pub returns : goal.returns
returns c = record { value = value_found; crossed = crossed; terminal = terminal }
