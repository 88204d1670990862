use Rattle.lw_reading.proofs.MoreTrees.{tree_of_dotted}
use Rattle.lw_reading.proofs.marks.laws.a_data_type_rule_gives_a_text.Goals as goal

pub returns : goal.returns
returns c = tree_of_dotted
