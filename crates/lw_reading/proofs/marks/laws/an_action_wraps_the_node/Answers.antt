use Rattle.lw_reading.proofs.MoreTrees.{tree_of_sum}
use Rattle.lw_reading.proofs.marks.laws.an_action_wraps_the_node.Goals as goal

pub returns : goal.returns
returns c = tree_of_sum
