use Rattle.lw_reading.proofs.InText.{tree_owns}
use Rattle.lw_reading.proofs.rooted.laws.references_stand_in_nodes.Goals as goal

pub returns : goal.returns
returns c = record {
  whole = λ g text m seen tokens tree is. tree_owns is.grown tokens tree.name tree is.parts;
  begun = λ g text m seen tokens tree is. tree_owns is.grown tokens tree.name tree is.parts;
}
