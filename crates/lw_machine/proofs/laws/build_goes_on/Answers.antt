-- Of the documents that are held one comes before every other.
use Rattle.lw_machine.proofs.FirstOf.{goes_on}
use Rattle.lw_machine.proofs.laws.build_goes_on.Goals as goal

pub returns : goal.returns
returns c = goes_on
