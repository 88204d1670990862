use Rattle.std.proofs.Common.{◌<◌, length, All}
use Rattle.lw_scoping.specs.Outward.{ContainersComeFirst}
use Rattle.lw_reading.proofs.InText.{tree_owns}
use Rattle.lw_reading.specs.Known.{HasKnownTypes, HasOneRoot}
use Rattle.lw_reading.proofs.Enclosed.{tree_encloses}
use Rattle.lw_reading.proofs.OneRoot.{one_root}
use Rattle.lw_reading.proofs.OfTexts.{of_text}
use Rattle.lw_reading.proofs.Typed.{tree_known}
use Rattle.lw_reading.proofs.outwards.laws.read_trees.Goals as goal

pub returns : goal.returns
returns c = record {
  root = λ g text. of_text g text HasOneRoot (λ m seen tokens tree is. one_root is.grown tokens tree.name tree is.parts);
  outwards = λ g text. of_text g text ContainersComeFirst (λ m seen tokens tree is. (tree_encloses is.grown tokens tree.name tree is.parts).0);
  owners = λ g text. of_text g text (λ tree. All (λ r. r.owner.0 < length tree.nodes) tree.refs)
      (λ m seen tokens tree is. tree_owns is.grown tokens tree.name tree is.parts);
  types = λ g text. of_text g text (HasKnownTypes g) (tree_known g text);
}
