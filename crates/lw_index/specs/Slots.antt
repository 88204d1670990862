-- What the tables of an index hold: for each name and place, a slot, and the target in it.
use Rattle.std.specs.Prelude.{ℕ, List, Option, option_and_then}
use Rattle.std.specs.Option.{option_map}
use Rattle.std.specs.declared.cmp.Ordering.{Ordering}
use Rattle.std.specs.Ordering.{nat_cmp, ordering_then}
use Rattle.std.specs.Cmp.Lexicographic.{slice_cmp}
use Rattle.std.specs.BTreeMap as tree
use Rattle.std.specs.BTreeMap.{BTreeMap}
use Rattle.lw_index.specs.declared.exporters.Slot.{Slot}
use Rattle.lw_index.specs.declared.parts.Target.{Target}

-- a type and a URI
abbrev pub Place : Type 0
Place = ℕ × List ℕ

abbrev pub name_cmp : List ℕ → List ℕ → Ordering
name_cmp = slice_cmp nat_cmp

abbrev pub place_cmp : Place → Place → Ordering
place_cmp a b = ordering_then (nat_cmp a.0 b.0) (slice_cmp nat_cmp a.1 b.1)

abbrev pub Exporters : Type 0
Exporters = BTreeMap Place Slot

abbrev pub Names : Type 0
Names = BTreeMap (List ℕ) Exporters

abbrev pub slot_in : Exporters → Place → Option Slot
slot_in exporters place = tree.get place_cmp exporters place

abbrev pub slot_at : Names → List ℕ → Place → Option Slot
slot_at names name place = option_and_then (λ exporters. slot_in exporters place) (tree.get name_cmp names name)

-- the target in a slot, if there is one
abbrev pub target_in : Slot → Option Target
target_in slot = option_map (λ node. record { doc = slot.doc; node = node }) slot.node

abbrev pub filled : Option Slot → Option Target
filled slot = option_and_then target_in slot
