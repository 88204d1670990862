use Rattle.lw_reading.proofs.Enclosed.{tree_encloses}
use Rattle.lw_reading.proofs.outwards.laws.containers_come_first.Goals as goal

pub returns : goal.returns
returns c = record {
  whole = λ g text m seen tokens tree is. tree_encloses is.grown tokens tree.name tree is.parts;
  begun = λ g text m seen tokens tree is. tree_encloses is.grown tokens tree.name tree is.parts;
}
