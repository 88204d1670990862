use Rattle.lw_reading.proofs.MoreTrees.{tree_of_marked}
use Rattle.lw_reading.proofs.marks.laws.a_call_replaces_the_node.Goals as goal

pub returns : goal.returns
returns c = tree_of_marked
