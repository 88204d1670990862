-- What names nodes by their numbers in place of their places in the order of finishing.
use Rattle.std.specs.Prelude.{ℕ, ◌<◌, List, slice_index}
use Rattle.lw_base.specs.declared.numbers.NodeId.{NodeId}
use Rattle.lw_base.specs.declared.numbers.PropId.{PropId}
use Rattle.lw_tree.specs.declared.node.Reference.{Reference}
use Rattle.lw_tree.specs.declared.node.Value.{Value}
use Rattle.lw_tree.specs.declared.node.Value.TheVariants.{Child}
use Rattle.lw_builder.specs.Finishing.{IsPlaceWithin}

abbrev pub value_by_number : List ℕ → Value → Value
value_by_number numbers (Child place) = Child (record { 0 = slice_index numbers place.0 })
value_by_number numbers v = v

abbrev pub entry_by_number : List ℕ → NodeId × PropId × Value → NodeId × PropId × Value
entry_by_number numbers e = (record { 0 = slice_index numbers e.0.0 }, e.1, value_by_number numbers e.2)

abbrev pub reference_by_number : List ℕ → Reference → Reference
reference_by_number numbers r = record r { owner = record { 0 = slice_index numbers r.owner.0 } }

-- the node that holds a value, and the value where it is a node, are of the first n
abbrev pub HasPlaces : ℕ → NodeId × PropId × Value → Type 0
HasPlaces n e = (e.0.0 < n) × IsPlaceWithin n e.2
