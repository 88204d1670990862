-- Each step lowers how many are left.
use Rattle.lw_machine.proofs.Steps.{ends}
use Rattle.lw_machine.proofs.laws.build_ends.Goals as goal

pub returns : goal.returns
returns c = ends
