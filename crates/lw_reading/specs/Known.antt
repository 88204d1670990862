-- Trees whose types are those of a grammar, and trees with one root.
-- Held against Langium, "Semantic model": each node has a type that the grammar declares or infers, and each cross-reference names one; `AstNode.$container`, which the root alone has not.
use Rattle.std.specs.Prelude.{ℕ, ◌≡◌, ◌<◌, Some, None, length, slice_get, All}
use Rattle.lw_grammar.specs.declared.grammar.Grammar.{Grammar}
use Rattle.lw_numbers.specs.Numbering.{type_names}
use Rattle.lw_tree.specs.declared.node.Node.{Node}
use Rattle.lw_tree.specs.Parts.{Parts}

-- the type of each node, and the type that each reference wants, is a type of the grammar
pub record HasKnownTypes (g : Grammar) (tree : Parts) : Type 0 where
  pub nodes : All (λ node. node.type_id.0 < length (type_names g)) tree.nodes
  pub refs : All (λ r. r.want.0 < length (type_names g)) tree.refs

-- there is a root, the first node, and no other node stands in none
pub record HasOneRoot (tree : Parts) : Type 0 where
  pub there : 0 < length tree.nodes
  pub only : (n : ℕ) (node : Node) → slice_get tree.nodes n ≡ Some node → node.container ≡ None → n ≡ 0
