-- The action is the only step.
use Rattle.lw_faults.specs.Worked.{place}
use Rattle.lw_faults.proofs.BelowWorked.{apart, extending}
use Rattle.lw_faults.proofs.laws.types_that_are_not_below.Goals as goal

pub returns : goal.returns
returns c = record { apart = apart (place 59 62); below = extending }
