-- The keywords by their first byte.
use Rattle.std.specs.Prelude.{ℕ, ◌≡◌, ◌<◌, ◌↔◌, List, ◌∷◌, length, Some, Contains, slice_get}
use Rattle.std.specs.List.{slice_index_or}

-- the keyword at the place k begins with the byte
abbrev pub StartsAt : List (List ℕ) → ℕ → ℕ → Type 0
StartsAt keywords byte k = (rest : List ℕ) × (slice_get keywords k ≡ Some (byte ∷ rest))

-- these are the places of the keywords that begin with the byte
abbrev pub AreStarting : List (List ℕ) → ℕ → List ℕ → Type 0
AreStarting keywords byte places = (k : ℕ) → Contains places k ↔ StartsAt keywords byte k

-- for each byte the places of the keywords that begin with it
pub record IsByFirstByte (keywords : List (List ℕ)) (table : List (List ℕ)) : Type 0 where
  pub each_byte : length table ≡ 256
  pub places : (byte : ℕ) (d : List ℕ) → byte < 256 → AreStarting keywords byte (slice_index_or table byte d)
