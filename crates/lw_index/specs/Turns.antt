-- What becomes of slots: at one place, and at the places of a list of exports, one after the other.
use Rattle.std.specs.Prelude.{◌≡◌, ℕ, List, Bool, ◌&&◌, Option, Some, None, fold, is_some, min, if◌then◌else◌, unwrap_or}
use Rattle.std.specs.Option.{option_map, option_map_or}
use Rattle.std.specs.Ordering.{eq_by_cmp}
use Rattle.lw_base.specs.declared.numbers.DocId.{DocId}
use Rattle.lw_base.specs.declared.numbers.NodeId.{NodeId}
use Rattle.lw_index.specs.declared.exporters.Slot.{Slot}
use Rattle.lw_index.specs.declared.parts.Export.{Export}
use Rattle.lw_index.specs.Slots.{Place, Exporters, Names, name_cmp, place_cmp, slot_in, slot_at, filled}

-- what may become of a slot, if there is one
abbrev pub Turn : Type 0
Turn = Option Slot → Option Slot

-- a free one is made where there is none
abbrev pub reserved : DocId → Turn
reserved doc slot = Some (unwrap_or slot (record { doc = doc; node = None }))

-- its node is taken out
abbrev pub emptied : Turn
emptied = option_map (λ s. record { doc = s.doc; node = None })

-- it holds this node of this document, or the lesser one that it held
abbrev pub offered : DocId → NodeId → Turn
offered doc node = option_map (λ s. record { doc = doc; node = Some (record { 0 = option_map_or (λ (n : NodeId). min n.0 node.0) s.node node.0 }) })

-- it goes where it is free
abbrev pub swept : Turn
swept None = None
swept (Some s) = if is_some s.node then Some s else None

-- the slot at one place has turned, and no other
abbrev pub TurnsAt : Turn → Place → Exporters → Exporters → Type 0
TurnsAt turn place before after = (p : Place) → slot_in after p ≡ (if eq_by_cmp place_cmp place p then turn (slot_in before p) else slot_in before p)

-- whether these are this name and this place
abbrev pub is_spot : List ℕ → Place → List ℕ → Place → Bool
is_spot name place n p = eq_by_cmp name_cmp name n && eq_by_cmp place_cmp place p

-- the slot of one name at one place has turned, and no other
abbrev pub TurnsOf : Turn → List ℕ → Place → Names → Names → Type 0
TurnsOf turn name place before after = (n : List ℕ) (p : Place) → slot_at after n p ≡ (if is_spot name place n p then turn (slot_at before n p) else slot_at before n p)

-- what becomes of the slot of a name at a place where each of a list of exports of a document with this URI turns its own
unfoldable pub turned : (Export → Turn) → List ℕ → List ℕ → Place → Option Slot → List Export → Option Slot
turned turn uri n p = fold (λ slot x. if is_spot x.name (x.type_id.0, uri) n p then turn x slot else slot)

abbrev pub TurnsAll : (Export → Turn) → List ℕ → List Export → Names → Names → Type 0
TurnsAll turn uri exports before after = (n : List ℕ) (p : Place) → slot_at after n p ≡ turned turn uri n p (slot_at before n p) exports

-- the same targets stand in both, whatever slots are free
abbrev pub AreFilledAlike : Names → Names → Type 0
AreFilledAlike before after = (n : List ℕ) (p : Place) → filled (slot_at after n p) ≡ filled (slot_at before n p)
