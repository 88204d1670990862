-- The rule is read again in each reading of it, or there is one without it.
use Rattle.lw_faults.proofs.ReadsWorked.{endless_found, endless_not_found}
use Rattle.lw_faults.proofs.laws.rules_without_end.Goals as goal

pub returns : goal.returns
returns c = record { always = endless_found; optional = endless_not_found }
