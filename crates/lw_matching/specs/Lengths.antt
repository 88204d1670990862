-- How many bytes a pattern matches at each place of a text.
-- Held against the definition of the length of a match, which is that of the text from the place on.
use Rattle.std.specs.Prelude.{◌≡◌, ℕ, ◌+◌, List, Option, Some, length, drop, slice_get, IsCharBoundary}
use Rattle.lw_tokens.specs.Matching.{match_length}

-- there is one for each byte and for the end; it says something where the text may be cut
pub record AreMatchLengths (pattern text : List ℕ) (lengths : List (Option ℕ)) : Type 0 where
  pub count : length lengths ≡ length text + 1
  pub each : (at : ℕ) → IsCharBoundary text at → slice_get lengths at ≡ Some (match_length pattern (drop at text))
