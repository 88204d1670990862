-- What is repeated reads nothing, or it reads a token.
use Rattle.lw_faults.proofs.ReadsWorked.{repeated_found, repeated_not_found}
use Rattle.lw_faults.proofs.laws.repeated_nothing.Goals as goal

pub returns : goal.returns
returns c = record { optional = repeated_found; always = repeated_not_found }
