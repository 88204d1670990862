-- One document is next, a document settles in one way, and it has one list.
use Rattle.lw_machine.proofs.OneBuild.{one_step, one_build}
use Rattle.lw_machine.proofs.laws.one_build.Goals as goal

pub returns : goal.returns
returns c = record { step = one_step; build = one_build }
