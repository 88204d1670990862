-- The tables of a tree whose nodes are named by their places in the order of finishing.
use Rattle.std.specs.Prelude.{ℕ, ◌≡◌, ◌+◌, ◌-◌, None, List, [], ◌∷◌, ◌++◌, map}
use Rattle.lw_base.specs.declared.numbers.NodeId.{NodeId}
use Rattle.lw_base.specs.declared.numbers.PropId.{PropId}
use Rattle.lw_tree.specs.declared.node.Reference.{Reference}
use Rattle.lw_tree.specs.declared.node.Value.{Value}
use Rattle.lw_tree.specs.declared.node.Value.TheVariants.{Child, Refers}
use Rattle.lw_reading.specs.Grown.{as_value, Grown, Grow, Held, Nothing, Puts, Takes, Points, size, size_of}
use Rattle.lw_reading.specs.Trees.{points_of}
use Rattle.lw_builder.specs.declared.preorder.finished.Finished.{Finished}
use Rattle.lw_builder.specs.Finishing.{finished}

-- The values that a node holds, where `base` nodes and r references were finished before what stands in it. A node inside is named by its
-- place, a reference by its number.
abbrev pub put_in : ℕ → ℕ → Held → List (PropId × Value)
put_in base r Nothing = []
put_in base r (Puts held p v) = put_in base r held ++ (record { 0 = p }, as_value v) ∷ []
put_in base r (Points held p want name s) = put_in base r held ++ (record { 0 = p }, Refers (record { 0 = r + points_of held })) ∷ []
put_in base r (Takes held p x) = put_in base r held ++ (record { 0 = p }, Child (record { 0 = base + size_of held + size x - 1 })) ∷ []

abbrev pub owned : NodeId → List (PropId × Value) → List (NodeId × PropId × Value)
owned own values = map (λ e. (own, e.0, e.1)) values

-- the values of finished nodes, in the order of finishing
abbrev mutual
  pub stored : ℕ → ℕ → Grown → List (NodeId × PropId × Value)
  stored base r (Grow t s held) = stored_in base r held ++ owned (record { 0 = base + size_of held }) (put_in base r held)

  pub stored_in : ℕ → ℕ → Held → List (NodeId × PropId × Value)
  stored_in base r Nothing = []
  stored_in base r (Puts held p v) = stored_in base r held
  stored_in base r (Points held p want name s) = stored_in base r held
  stored_in base r (Takes held p x) = stored_in base r held ++ stored (base + size_of held) (r + points_of held) x

-- the references in text order, each with the place of the node that it stands in
abbrev mutual
  pub pointed : ℕ → Grown → List Reference
  pointed base (Grow t s held) = pointed_in (record { 0 = base + size_of held }) base held

  pub pointed_in : NodeId → ℕ → Held → List Reference
  pointed_in own base Nothing = []
  pointed_in own base (Puts held p v) = pointed_in own base held
  pointed_in own base (Points held p want name s) =
      pointed_in own base held ++ record { owner = own; prop = record { 0 = p }; want = record { 0 = want }; name = name; span = s } ∷ []
  pointed_in own base (Takes held p x) = pointed_in own base held ++ pointed (base + size_of held) x

-- these are the tables of the tree x, in the order of finishing
pub record AreTablesOf (x : Grown) (all : List Finished) (kept : List (NodeId × PropId × Value)) (points : List Reference) : Type 0 where
  pub nodes : all ≡ finished None None 0 x
  pub values : kept ≡ stored 0 0 x
  pub refs : points ≡ pointed 0 x
