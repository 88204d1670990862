-- The symbols of a tree are its named nodes. What a document exports are its root, where that is named, and the named nodes directly in the
-- root; the symbols of a node are the named nodes directly in it.
-- Held against Langium's default scope computation, "Exported Symbols" and "Local Symbols"; that the root counts as exported is this profile's.
use Rattle.std.specs.Prelude.{ℕ, ◌≡◌, List, ◌∷◌, Some, Bool, filter, map, slice_get}
use Rattle.std.specs.Option.{is_some}
use Rattle.lw_base.specs.declared.token.Span.{Span}
use Rattle.lw_tree.specs.declared.node.Node.{Node}
use Rattle.lw_tree.specs.Parts.{Parts, children_of, name_of}

abbrev pub is_named_node : Parts → ℕ → Bool
is_named_node tree n = is_some (name_of tree n)

-- the nodes directly in a node, by their numbers, in order
abbrev pub child_numbers : Parts → ℕ → List ℕ
child_numbers tree n = map (λ c. c.0) (children_of n tree.nodes)

-- the symbols of a node
abbrev pub locals : Parts → ℕ → List ℕ
locals tree n = filter (is_named_node tree) (child_numbers tree n)

-- what a document with this tree exports
abbrev pub exports : Parts → List ℕ
exports tree = filter (is_named_node tree) (0 ∷ child_numbers tree 0)

-- the node of this number has this name and is of this type
pub record IsNamedNode (tree : Parts) (n : ℕ) (name : List ℕ) (type : ℕ) : Type 0 where
  pub span : Span
  pub named : name_of tree n ≡ Some (name, span)
  pub node : Node
  pub there : slice_get tree.nodes n ≡ Some node
  pub typed : node.type_id.0 ≡ type

-- the node of this number has this name, and a type that is wanted
abbrev pub IsNamedOf : Parts → List ℕ → (ℕ → Type 0) → ℕ → Type 0
IsNamedOf tree name wanted n = (type : ℕ) × IsNamedNode tree n name type × wanted type
