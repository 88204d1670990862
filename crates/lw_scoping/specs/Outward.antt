-- The way from a node outwards, to what it stands in.
-- Held against Langium's `AstNode.$container`: the node that a node stands in, which the root has not.
use Rattle.std.specs.Prelude.{ℕ, ◌≡◌, ◌<◌, List, [], ◌∷◌, Some, None, slice_get}
use Rattle.lw_tree.specs.declared.node.Node.{Node}
use Rattle.lw_tree.specs.Parts.{Parts}

-- a node, then each container outwards, up to one that has none
pub data LeadsOut (tree : Parts) : ℕ → List ℕ → Type 0 where
  outermost : {n : ℕ} {node : Node} → slice_get tree.nodes n ≡ Some node → node.container ≡ None → LeadsOut tree n (n ∷ [])
  inner : {n : ℕ} {node : Node} {path : List ℕ} (c : ℕ) → slice_get tree.nodes n ≡ Some node → node.container ≡ Some (record { 0 = c }) →
      LeadsOut tree c path → LeadsOut tree n (n ∷ path)

-- Each container has a smaller number than what stands in it, so that each node leads out.
abbrev pub ContainersComeFirst : Parts → Type 0
ContainersComeFirst tree = (n c : ℕ) (node : Node) → slice_get tree.nodes n ≡ Some node → node.container ≡ Some (record { 0 = c }) → c < n
