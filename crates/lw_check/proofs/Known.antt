-- The types of a tree have names in what is known of its grammar.
use Rattle.std.proofs.Common.{ℕ, ◌≡◌, ◌<◌, All, List, Some, length, slice_get, sym, subst}
use Rattle.std.proofs.lemmas.List.Elements.{All-get_or}
use Rattle.std.proofs.lemmas.Option.{get_or_from_slice_get, slice_get_within}
use Rattle.lw_grammar.specs.declared.grammar.Grammar.{Grammar}
use Rattle.lw_numbers.specs.Numbering.{type_names}
use Rattle.lw_reading.specs.Known.{HasKnownTypes}
use Rattle.lw_tree.specs.declared.node.Node.{Node}
use Rattle.lw_tree.specs.Parts.{Parts}
use Rattle.lw_types.specs.declared.types.Types.{Types}
use Rattle.lw_types.specs.Inferred.{AreTypesOf}

at_place : {X : Type 0} (P : X → Type 0) (xs : List X) (i : ℕ) (x : X) → slice_get xs i ≡ Some x → All P xs → P x
at_place P xs i x at all = subst P (get_or_from_slice_get xs i x x at) (All-get_or P xs i x (slice_get_within xs i x at) all)

module _ (types : Types) (tree : Parts) (known : (g : Grammar) × AreTypesOf g types × HasKnownTypes g tree) where
  named_below : (t : ℕ) → t < length (type_names known.0) → t < length types.rules.numbers.types
  named_below t below = subst (λ (names : List (List ℕ)). t < length names) (sym known.1.rules.numbers.types) below

  pub node_known : (n : ℕ) (node : Node) → slice_get tree.nodes n ≡ Some node → node.type_id.0 < length types.rules.numbers.types
  node_known n node at =
      named_below node.type_id.0 (at_place (λ (x : Node). x.type_id.0 < length (type_names known.0)) tree.nodes n node at known.2.nodes)
