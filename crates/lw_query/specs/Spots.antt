-- Where places of numbered documents lead, where names and references stand, and which of these spots are a node's mentions.
-- Held against the Language Server Protocol 3.17, "Find References Request".
use Rattle.std.specs.Prelude.{ℕ, ◌≡◌, Bool, true, List, Option, Some, None, Contains, length, nat_lt, slice_get, unwrap_or, if◌then◌else◌}
use Rattle.std.specs.Option.{option_map}
use Rattle.lw_base.specs.declared.numbers.DocId.{DocId}
use Rattle.lw_index.specs.declared.parts.Answer.{Answer}
use Rattle.lw_index.specs.declared.parts.Answer.TheVariants.{Found, Missing}
use Rattle.lw_index.specs.declared.parts.Target.{Target}
use Rattle.lw_places.specs.declared.place.Place.{Place}
use Rattle.lw_places.specs.declared.place.Place.TheVariants.{Named, Refers}
use Rattle.lw_index.specs.Led.{Led}
use Rattle.lw_index.specs.Users.{IsUser}
use Rattle.lw_index.specs.declared.refs.slot.SlotId.{SlotId}
use Rattle.lw_tree.specs.Parts.{Parts, name_of}
use Rattle.lw_query.specs.declared.spot.Spot.{Spot}

-- where a place of a document leads, by the answers for its references
abbrev pub place_answer : List Answer → DocId → Option Place → Answer
place_answer answers doc None = Missing
place_answer answers doc (Some (Named n)) = Found (record { doc = doc; node = n })
place_answer answers doc (Some (Refers i)) = unwrap_or (slice_get answers i.0) Missing

-- where a reference stands, by the tree of its document
abbrev pub slot_spot : Option Parts → SlotId → Option Spot
slot_spot None slot = None
slot_spot (Some tree) slot = option_map (λ r. record { doc = slot.doc; span = r.span }) (slice_get tree.refs slot.reference.0)

-- where the name of a node stands, by the tree of its document
abbrev pub target_spot : Option Parts → Target → Option Spot
target_spot None target = None
target_spot (Some tree) target =
    if nat_lt target.node.0 (length tree.nodes)
    then option_map (λ named. record { doc = target.doc; span = named.1 }) (name_of tree target.node.0) else None

module _ (tree_at : ℕ → Option Parts) where
  -- one of these references stands there
  pub record IsSpotOfSlot (slots : List SlotId) (spot : Spot) : Type 0 where
    pub slot : SlotId
    pub among : Contains slots slot
    pub there : slot_spot (tree_at slot.doc.0) slot ≡ Some spot

  -- a reference that leads to the node stands there, or the name of the node where the declaration counts
  pub data IsSpotOfMention (led : Led) (declaration : Bool) (target : Target) (spot : Spot) : Type 0 where
    used : (slot : SlotId) → IsUser led target slot → slot_spot (tree_at slot.doc.0) slot ≡ Some spot → IsSpotOfMention led declaration target spot
    declared : declaration ≡ true → target_spot (tree_at target.doc.0) target ≡ Some spot → IsSpotOfMention led declaration target spot
