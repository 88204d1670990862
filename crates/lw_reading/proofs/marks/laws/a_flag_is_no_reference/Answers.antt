use Rattle.lw_reading.proofs.MoreTrees.{tree_of_flag}
use Rattle.lw_reading.proofs.marks.laws.a_flag_is_no_reference.Goals as goal

pub returns : goal.returns
returns c = tree_of_flag
