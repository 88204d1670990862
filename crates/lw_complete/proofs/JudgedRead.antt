-- What holds of the references of a tree that was read.
use Rattle.std.proofs.Common.{◌<◌, ℕ, List, All, Contains, length}
use Rattle.std.proofs.lemmas.List.Elements.{All-contains}
use Rattle.lw_grammar.specs.declared.grammar.Grammar.{Grammar}
use Rattle.lw_numbers.specs.Numbering.{type_names}
use Rattle.lw_reading.specs.Known.{HasKnownTypes, HasOneRoot}
use Rattle.lw_reading.proofs.Enclosed.{tree_encloses}
use Rattle.lw_reading.proofs.OfTexts.{of_text}
use Rattle.lw_reading.proofs.OneRoot.{one_root}
use Rattle.lw_reading.proofs.Typed.{tree_known}
use Rattle.lw_reading.specs.Reading.{Reads}
use Rattle.lw_reading.specs.declared.parsed.Parsed.TheVariants.{Whole}
use Rattle.lw_reading.proofs.InText.{tree_owns}
use Rattle.lw_scoping.specs.Outward.{ContainersComeFirst}
use Rattle.lw_tree.specs.declared.node.Reference.{Reference}
use Rattle.lw_tree.specs.Parts.{Parts}

module _ (g : Grammar) (text : List ℕ) (tree : Parts) (reads : Reads g text (Whole tree)) where
  pub read_root : HasOneRoot tree
  read_root = of_text g text HasOneRoot (λ m seen tokens tree is. one_root is.grown tokens tree.name tree is.parts) tree reads

  pub read_outwards : ContainersComeFirst tree
  read_outwards = of_text g text ContainersComeFirst (λ m seen tokens tree is. (tree_encloses is.grown tokens tree.name tree is.parts).0) tree reads

  pub read_owner : (r : Reference) → Contains tree.refs r → r.owner.0 < length tree.nodes
  read_owner r has =
      All-contains (λ (r : Reference). r.owner.0 < length tree.nodes) tree.refs r
      (of_text g text (λ tree. All (λ r. r.owner.0 < length tree.nodes) tree.refs)
      (λ m seen tokens tree is. tree_owns is.grown tokens tree.name tree is.parts) tree reads) has

  pub read_want : (r : Reference) → Contains tree.refs r → r.want.0 < length (type_names g)
  read_want r has =
      All-contains (λ (r : Reference). r.want.0 < length (type_names g)) tree.refs r (of_text g text (HasKnownTypes g) (tree_known g text) tree reads).refs has
