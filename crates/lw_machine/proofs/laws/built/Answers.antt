-- By induction on the steps.
use Rattle.lw_machine.proofs.Validity.{end_is_built, end_is_current}
use Rattle.lw_machine.proofs.Contents.{to_end_same}
use Rattle.lw_machine.proofs.laws.built.Goals as goal

pub returns : goal.returns
returns c = record { built = end_is_built; current = end_is_current; content = to_end_same }
