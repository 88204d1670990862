use Rattle.lw_reading.proofs.Typed.{tree_known, opened_tree_known}
use Rattle.lw_reading.proofs.outwards.laws.types_are_known.Goals as goal

pub returns : goal.returns
returns c = record {
  whole = λ g text m seen tokens tree is. tree_known g text m seen tokens tree is;
  begun = λ g text m seen tokens tree is. opened_tree_known g text m seen tokens tree is;
}
