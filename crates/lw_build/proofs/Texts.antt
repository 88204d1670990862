-- What holds of the tree of a text.
use Rattle.std.proofs.Common.{ℕ, ◌<◌, List, All, length}
use Rattle.lw_grammar.specs.declared.grammar.Grammar.{Grammar}
use Rattle.lw_reading.specs.Known.{HasKnownTypes, HasOneRoot}
use Rattle.lw_reading.proofs.Enclosed.{tree_encloses}
use Rattle.lw_reading.proofs.OfTexts.{of_text}
use Rattle.lw_reading.proofs.OneRoot.{one_root}
use Rattle.lw_reading.proofs.Typed.{tree_known}
use Rattle.lw_reading.specs.Reading.{Reads}
use Rattle.lw_reading.specs.declared.parsed.Parsed.TheVariants.{Whole}
use Rattle.lw_reading.proofs.InText.{tree_owns}
use Rattle.lw_scoping.specs.Outward.{ContainersComeFirst}
use Rattle.lw_tree.specs.Parts.{Parts}

module _ (g : Grammar) (text : List ℕ) where
  pub text_root : (tree : Parts) → Reads g text (Whole tree) → HasOneRoot tree
  text_root = of_text g text HasOneRoot (λ m seen tokens tree is. one_root is.grown tokens tree.name tree is.parts)

  pub text_outwards : (tree : Parts) → Reads g text (Whole tree) → ContainersComeFirst tree
  text_outwards = of_text g text ContainersComeFirst (λ m seen tokens tree is. (tree_encloses is.grown tokens tree.name tree is.parts).0)

  pub text_owners : (tree : Parts) → Reads g text (Whole tree) → All (λ r. r.owner.0 < length tree.nodes) tree.refs
  text_owners = of_text g text (λ tree. All (λ r. r.owner.0 < length tree.nodes) tree.refs)
      (λ m seen tokens tree is. tree_owns is.grown tokens tree.name tree is.parts)

  pub text_types : (tree : Parts) → Reads g text (Whole tree) → HasKnownTypes g tree
  text_types = of_text g text (HasKnownTypes g) (tree_known g text)
