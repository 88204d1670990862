-- Places of numbered documents, kept in the order of the addresses of the documents and of bytes, each once.
-- Held against `lw_places`, which says the order of mentions.
use Rattle.std.specs.Prelude.{ℕ, ◌≡◌, ◌⊎◌, List, [], Contains, map}
use Rattle.std.specs.Borrow.{Bor}
use Rattle.std.specs.Cmp.Lexicographic.{slice_cmp}
use Rattle.std.specs.List.Sorted.{IsStrictlySortedBy}
use Rattle.std.specs.Ordering.{nat_cmp, ordering_then}
use Rattle.std.specs.declared.cmp.Ordering.{Ordering}
use Rattle.lw_places.specs.Mentions.{Mention}
use Rattle.lw_query.specs.declared.spot.Spot.{Spot}

-- the address of a document, the first byte and the one behind the last, and the number of the document
abbrev pub SpotKey : Type 0
SpotKey = Bor (List ℕ) × ℕ × ℕ × ℕ

abbrev pub key_cmp : SpotKey → SpotKey → Ordering
key_cmp a b =
    ordering_then (ordering_then (ordering_then (slice_cmp nat_cmp a.0.now b.0.now) (nat_cmp a.1 b.1)) (nat_cmp a.2 b.2)) (nat_cmp a.3 b.3)

abbrev pub spot_of_key : SpotKey → Spot
spot_of_key k = record { doc = record { 0 = k.3 }; span = record { start = k.1; end = k.2 } }

abbrev pub mention_of_key : SpotKey → Mention
mention_of_key k = record { address = k.0.now; span = record { start = k.1; end = k.2 } }

-- a spot is kept
pub record KeepsSpot (keys : List SpotKey) (spot : Spot) : Type 0 where
  pub key : SpotKey
  pub among : Contains keys key
  pub is : spot_of_key key ≡ spot

-- `Stands n address`: the document of the number n stands at the address
module _ (Stands : ℕ → List ℕ → Type 0) (Wanted : Spot → Type 0) where
  -- what is wanted is put in, where its document has an address, beside what is kept already
  pub record PutsSpots (old new : List SpotKey) : Type 0 where
    pub kept : (spot : Spot) → KeepsSpot old spot → KeepsSpot new spot
    pub put_in : (spot : Spot) (address : List ℕ) → Wanted spot → Stands spot.doc.0 address → KeepsSpot new spot
    pub only : (k : SpotKey) → Contains new k → Contains old k ⊎ (Wanted (spot_of_key k) × Stands k.3 k.0.now)

  -- these are the spots that are wanted, in their order
  pub record AreSpotsOf (spots : List Spot) : Type 0 where
    pub keys : List SpotKey
    pub same : spots ≡ map spot_of_key keys
    pub ordered : IsStrictlySortedBy key_cmp keys
    pub put_in : PutsSpots [] keys
