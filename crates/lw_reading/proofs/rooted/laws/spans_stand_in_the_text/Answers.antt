use Rattle.lw_reading.proofs.InText.{tree_in, opened_tree_in}
use Rattle.lw_reading.proofs.rooted.laws.spans_stand_in_the_text.Goals as goal

pub returns : goal.returns
returns c = record {
  whole = λ g text m seen tokens tree row is. tree_in g text m seen tokens tree row is;
  begun = λ g text m seen tokens tree row is. opened_tree_in g text m seen tokens tree row is;
}
