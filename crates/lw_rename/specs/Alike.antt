-- In which nodes two trees have not the same shape, part by part.
use Rattle.std.specs.Prelude.{ℕ, ◌≡◌, ◌≢◌, ◌<◌, ◌≤◌, ◌==◌, List, Option, Some, None, MatchOption, length, map, slice_get, if◌then◌else◌, option_and_then}
use Rattle.std.specs.Option.{option_map}
use Rattle.lw_base.specs.declared.numbers.NodeId.{NodeId}
use Rattle.lw_base.specs.declared.numbers.PropId.{PropId}
use Rattle.lw_base.specs.declared.numbers.TypeId.{TypeId}
use Rattle.lw_tree.specs.declared.node.Reference.{Reference}
use Rattle.lw_tree.specs.Parts.{Parts, children_of, values_at}
use Rattle.lw_places.specs.Shapes.{shape_of_value, stands_as}

-- the values under each property below a number
abbrev pub HaveSameValues : Parts → Parts → ℕ → ℕ → Type 0
HaveSameValues one other n props = (p : ℕ) → p < props → map shape_of_value (values_at n p one.values) ≡ map shape_of_value (values_at n p other.values)

-- all but references, of a node that both have
pub record AreAlikeBut (one other : Parts) (n props : ℕ) : Type 0 where
  pub in_one : n < length one.nodes
  pub in_other : n < length other.nodes
  pub node : option_map stands_as (slice_get one.nodes n) ≡ option_map stands_as (slice_get other.nodes n)
  pub children : children_of n one.nodes ≡ children_of n other.nodes
  pub values : HaveSameValues one other n props

-- references that differ in their names and places at most
abbrev pub refers_alike : Reference → Reference → Type 0
refers_alike one other = (one.owner ≡ other.owner) × (one.prop ≡ other.prop) × (one.want ≡ other.want)

-- what a reference is in a node, where it is one of it
abbrev pub refers_in : Option Reference → ℕ → Option (PropId × TypeId)
refers_in r n = option_and_then (λ r. if r.owner.0 == n then Some (r.prop, r.want) else None) r

-- the first node in which one reference is not the same as the other, or that there is none
abbrev pub IsFirstApart : Option Reference → Option Reference → Option NodeId → Type 0
IsFirstApart one other found =
    MatchOption found ((n : ℕ) → refers_in one n ≡ refers_in other n)
    (λ o. (refers_in one o.0 ≢ refers_in other o.0) × ((n : ℕ) → n < o.0 → refers_in one n ≡ refers_in other n))

-- the same of the first references of two lists
abbrev pub IsFirstApartBelow : ℕ → List Reference → List Reference → Option NodeId → Type 0
IsFirstApartBelow count one other found =
    MatchOption found ((i n : ℕ) → i < count → refers_in (slice_get one i) n ≡ refers_in (slice_get other i) n)
    (λ o. ((i : ℕ) × (i < count) × (refers_in (slice_get one i) o.0 ≢ refers_in (slice_get other i) o.0)) ×
    ((i n : ℕ) → i < count → n < o.0 → refers_in (slice_get one i) n ≡ refers_in (slice_get other i) n))

-- of all references
abbrev pub IsFirstApartAmong : List Reference → List Reference → Option NodeId → Type 0
IsFirstApartAmong one other found =
    MatchOption found ((i n : ℕ) → refers_in (slice_get one i) n ≡ refers_in (slice_get other i) n)
    (λ o. ((i : ℕ) × (refers_in (slice_get one i) o.0 ≢ refers_in (slice_get other i) o.0)) ×
    ((i n : ℕ) → n < o.0 → refers_in (slice_get one i) n ≡ refers_in (slice_get other i) n))

-- the lesser of two nodes, where there are two
pub data IsLesserNode : Option NodeId → Option NodeId → Option NodeId → Type 0 where
  first : {n m : NodeId} → n.0 ≤ m.0 → IsLesserNode (Some n) (Some m) (Some n)
  second : {n m : NodeId} → m.0 ≤ n.0 → IsLesserNode (Some n) (Some m) (Some m)
  one : {n : NodeId} → IsLesserNode (Some n) None (Some n)
  other : {m : Option NodeId} → IsLesserNode None m m
