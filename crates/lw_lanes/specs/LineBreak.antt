-- The bytes that end a line in the Language Server Protocol 3.17, whose line ends are `\n`, `\r\n` and `\r`.
use Rattle.std.specs.Prelude.{◌≡◌, ℕ, ◌+◌, ◌<◌, ◌≤◌, Bool, true, false, ◌||◌, ◌==◌, List, length, slice_index, drop, Option, count_by, position}
use Rattle.std.specs.Option.{option_map}

-- `\n` or `\r`
abbrev pub is_break : ℕ → Bool
is_break byte = byte == 10 || byte == 13

-- how many bytes are breaks: `\r\n` is two of them
abbrev pub breaks : List ℕ → ℕ
breaks bytes = count_by is_break bytes

-- the least place from `from` on where a break stands
abbrev pub next_break : List ℕ → ℕ → Option ℕ
next_break bytes from = option_map (λ n. from + n) (position is_break (drop from bytes))

-- no break stands from `from` up to `end`
abbrev pub NoBreakBetween : List ℕ → ℕ → ℕ → Type 0
NoBreakBetween bytes from end = (k : ℕ) → from ≤ k → k < end → is_break (slice_index bytes k) ≡ false

-- a break stands at `place`, and none from `from` up to it
pub record IsLeastBreak (bytes : List ℕ) (from place : ℕ) : Type 0 where
  pub onwards : from ≤ place
  pub within : place < length bytes
  pub is_one : is_break (slice_index bytes place) ≡ true
  pub least : NoBreakBetween bytes from place
