-- Each two of a space are looked at.
use Rattle.lw_faults.proofs.NamesWorked.{rule, other_rule, inferred, other_type}
use Rattle.lw_faults.proofs.laws.duplicates.Goals as goal

pub returns : goal.returns
returns c = record { rule = rule; other_rule = other_rule; inferred = inferred; other_type = other_type }
