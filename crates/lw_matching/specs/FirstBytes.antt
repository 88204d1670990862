-- The bytes with which the texts begin that a pattern matches at their start.
-- Held against the documentation of the crate `regex`: what a pattern matches begins where `\A` holds, at the first byte of the text.
use Rattle.std.specs.Prelude.{◌≡◌, ℕ, List, [], ◌∷◌, Bool, false, None}
use Rattle.std.specs.List.{slice_index_or}
use Rattle.lw_matching.specs.Nfas.{IsForeseen}

-- there is a flag for each byte, and where it is off, the pattern matches at the start of no text that begins with the byte
abbrev pub AreFirstBytes : List ℕ → List Bool → Type 0
AreFirstBytes pattern flags = (byte : ℕ) → slice_index_or flags byte false ≡ false → IsForeseen pattern (byte ∷ []) None
