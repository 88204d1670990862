-- The one rule names its nodes by what is there, by what is not, or not at all.
use Rattle.lw_faults.specs.Worked.{place}
use Rattle.lw_faults.proofs.NameRulesWorked.{nameless_found, named, unread_found}
use Rattle.lw_faults.proofs.laws.name_rules.Goals as goal

pub returns : goal.returns
returns c = record { nameless = nameless_found (place 21 24); unread = unread_found (place 29 32); named = named }
