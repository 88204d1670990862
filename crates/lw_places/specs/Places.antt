-- What stands at an offset of a tree: the name of a node, or a reference. One that the offset is inside of goes before one that ends there, so that a
-- place directly behind a word still means it.
-- Held against the Language Server Protocol 3.17, "Goto Definition Request" (the symbol at a position) and "Position" (a position is between two characters).
use Rattle.std.specs.Prelude.{ℕ, ◌≡◌, ◌≤◌, ◌<◌, List, length, slice_get, Option, Some, None}
use Rattle.lw_base.specs.declared.numbers.NodeId.{NodeId}
use Rattle.lw_base.specs.declared.numbers.RefId.{RefId}
use Rattle.lw_base.specs.declared.token.Span.{Span}
use Rattle.lw_tree.specs.declared.node.Reference.{Reference}
use Rattle.lw_tree.specs.Parts.{Parts, name_of}
use Rattle.lw_places.specs.declared.place.Place.{Place}
use Rattle.lw_places.specs.declared.place.Place.TheVariants.{Named, Refers}

-- the bytes that it takes up
pub data TakesUp (tree : Parts) : Place → Span → Type 0 where
  name : {n : NodeId} {text : List ℕ} {s : Span} → n.0 < length tree.nodes → name_of tree n.0 ≡ Some (text, s) → TakesUp tree (Named n) s
  reference : {i : RefId} {r : Reference} → slice_get tree.refs i.0 ≡ Some r → TakesUp tree (Refers i) r.span

-- the byte at the offset is one of these
abbrev pub Covers : ℕ → Span → Type 0
Covers offset s = (s.start ≤ offset) × (offset < s.end)

-- these bytes end at the offset
abbrev pub IsJustBehind : ℕ → Span → Type 0
IsJustBehind offset s = s.end ≡ offset

-- the order in which places are looked at: names before references, each by number
pub data ComesNoLater : Place → Place → Type 0 where
  names : {n m : NodeId} → n.0 ≤ m.0 → ComesNoLater (Named n) (Named m)
  name_first : {n : NodeId} {i : RefId} → ComesNoLater (Named n) (Refers i)
  references : {i j : RefId} → i.0 ≤ j.0 → ComesNoLater (Refers i) (Refers j)

-- of what passes by the bytes that it takes up, the first
pub record IsFirstPlace (passes : Span → Type 0) (tree : Parts) (p : Place) : Type 0 where
  pub span : Span
  pub takes_up : TakesUp tree p span
  pub does : passes span
  pub first : (other : Place) (s : Span) → TakesUp tree other s → passes s → ComesNoLater p other

-- nothing passes
abbrev pub NoPlace : (Span → Type 0) → Parts → Type 0
NoPlace passes tree = (p : Place) (s : Span) → TakesUp tree p s → ¬ passes s

-- What stands at the offset, or None where nothing does. Names and references of one text do not overlap; where two did, the order would settle it.
pub data IsPlaceAt (tree : Parts) (offset : ℕ) : Option Place → Type 0 where
  inside : {p : Place} → IsFirstPlace (Covers offset) tree p → IsPlaceAt tree offset (Some p)
  at_end : {p : Place} → NoPlace (Covers offset) tree → IsFirstPlace (IsJustBehind offset) tree p → IsPlaceAt tree offset (Some p)
  nothing : NoPlace (Covers offset) tree → NoPlace (IsJustBehind offset) tree → IsPlaceAt tree offset None
