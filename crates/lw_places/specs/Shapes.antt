-- When two trees differ in nothing but where their parts stand and what their texts are.
-- Held against Langium's `AstNode`: its type, its container and its property there, its properties and cross-references.
use Rattle.std.specs.Prelude.{ℕ, ◌≡◌, ◌<◌, ◌⊎◌, ◌==◌, length, map, slice_get, Option, Some, None, option_and_then, if◌then◌else◌}
use Rattle.std.specs.Option.{option_map}
use Rattle.lw_base.specs.declared.numbers.NodeId.{NodeId}
use Rattle.lw_base.specs.declared.numbers.PropId.{PropId}
use Rattle.lw_base.specs.declared.numbers.RefId.{RefId}
use Rattle.lw_base.specs.declared.numbers.TypeId.{TypeId}
use Rattle.lw_grammar.specs.declared.grammar.Grammar.{Grammar}
use Rattle.lw_numbers.specs.Numbering.{property_names}
use Rattle.lw_tree.specs.declared.node.Node.{Node}
use Rattle.lw_tree.specs.declared.node.Value.{Value}
use Rattle.lw_tree.specs.declared.node.Value.TheVariants as value
use Rattle.lw_tree.specs.Parts.{Parts, children_of, values_at}

-- a value without its text, its number and its place
pub data ValueShape : Type 0 where
  Text : ValueShape
  Number : ValueShape
  Huge : ValueShape
  Raw : ValueShape
  Truth : ValueShape
  Child : NodeId → ValueShape
  Refers : RefId → ValueShape

abbrev pub shape_of_value : Value → ValueShape
shape_of_value (value.Text name s) = Text
shape_of_value (value.Number n s) = Number
shape_of_value (value.Huge s) = Huge
shape_of_value (value.Raw name s) = Raw
shape_of_value (value.Truth s) = Truth
shape_of_value (value.Child n) = Child n
shape_of_value (value.Refers r) = Refers r

-- a node without its place: its type, what it stands in, and under which property
abbrev pub stands_as : Node → TypeId × Option NodeId × Option PropId
stands_as node = (node.type_id, node.container, node.prop)

-- a reference of a node, by its number: its property and the type that it wants; None where it is none of this node
abbrev pub refers_as : Parts → ℕ → ℕ → Option (PropId × TypeId)
refers_as tree n i = option_and_then (λ r. if r.owner.0 == n then Some (r.prop, r.want) else None) (slice_get tree.refs i)

module _ (g : Grammar) (one other : Parts) where
  -- both have a node of this number or neither has, and its type, its container, its property, its children, the shapes of its values under each property
  -- of the grammar and its references are the same
  pub record IsAlikeAt (n : ℕ) : Type 0 where
    pub node : option_map stands_as (slice_get one.nodes n) ≡ option_map stands_as (slice_get other.nodes n)
    pub children : children_of n one.nodes ≡ children_of n other.nodes
    pub values : (p : ℕ) → p < length (property_names g) → map shape_of_value (values_at n p one.values) ≡ map shape_of_value (values_at n p other.values)
    pub references : (i : ℕ) → refers_as one n i ≡ refers_as other n i

  -- at each node of either
  abbrev pub HaveSameShape : Type 0
  HaveSameShape = (n : ℕ) → (n < length one.nodes) ⊎ (n < length other.nodes) → IsAlikeAt n

  -- the first node at which they differ
  pub record IsFirstUnlike (n : ℕ) : Type 0 where
    pub there : (n < length one.nodes) ⊎ (n < length other.nodes)
    pub unlike : ¬ IsAlikeAt n
    pub alike_before : (k : ℕ) → k < n → IsAlikeAt k
