-- The position of a place in a text: its line and its character in that line, both counted from zero, the latter in units of the
-- encoding that client and server have agreed on (Language Server Protocol 3.17, "Position" and "PositionEncodingKind").
use Rattle.std.specs.Prelude.{ℕ, ◌≡◌, ◌+◌, ◌<◌, ◌≤◌, ◌⊎◌, List, [], ◌∷◌, ◌++◌, length, sum_by, nat_lt, if◌then◌else◌, Some, slice_get, encode_utf8, encode_utf8_all, All}
use Rattle.std.specs.Char.{IsScalar}
use Rattle.lw_text.specs.Lines.{Line, AreLines, line_bytes, lines_bytes}
use Rattle.lw_text.specs.declared.place.Pos.{Pos}
use Rattle.lw_text.specs.declared.units.Encoding.{Encoding}
use Rattle.lw_text.specs.declared.units.Encoding.TheVariants.{Utf16}

-- how many UTF-16 units a character takes
abbrev pub utf16_len : ℕ → ℕ
utf16_len c = if nat_lt c 0x1_0000 then 1 else 2

-- how many units of the encoding a character takes
abbrev pub units_of : Encoding → ℕ → ℕ
units_of Utf16 c = utf16_len c

-- how many bytes a character takes
abbrev pub utf8_len : ℕ → ℕ
utf8_len c = length (encode_utf8 c)

-- the whole characters among the first n units of these bytes, where a character c takes `size c` units
pub record AreCharsWithin (size : ℕ → ℕ) (bytes : List ℕ) (n : ℕ) (cs : List ℕ) : Type 0 where
  pub scalars : All IsScalar cs
  pub rest : List ℕ
  pub parts : bytes ≡ encode_utf8_all cs ++ rest
  pub within : sum_by size cs ≤ n
  -- the next character ends behind them
  pub whole : (rest ≡ []) ⊎ ((c : ℕ) × IsScalar c × (more : List ℕ) × (rest ≡ encode_utf8 c ++ more) × (n < sum_by size cs + size c))

-- the place is in this line, which begins at `start`: before the next line, or anywhere after its start where it is the last
abbrev pub IsInLine : ℕ → ℕ → Line → List Line → Type 0
IsInLine offset start line after = (start ≤ offset) × ((offset < start + line_bytes line) ⊎ (after ≡ []))

-- the line that the byte offset is in: how many lines come before it, and where it begins
pub record IsLineOf (text : List ℕ) (offset count start : ℕ) : Type 0 where
  pub before : List Line
  pub line : Line
  pub after : List Line
  pub cut : AreLines text (before ++ line ∷ after)
  pub begins : start ≡ lines_bytes before
  pub inside : IsInLine offset start line after
  pub number : count ≡ length before

-- The position of the byte offset, in the encoding. A place inside what ends a line is the end of that line, and one inside a character is
-- where the character begins.
pub record IsPositionIn (enc : Encoding) (text : List ℕ) (offset : ℕ) (at : Pos) : Type 0 where
  pub before : List Line
  pub line : Line
  pub after : List Line
  pub into : ℕ
  pub chars : List ℕ
  pub cut : AreLines text (before ++ line ∷ after)
  pub inside : IsInLine offset (lines_bytes before) line after
  pub far : offset ≡ lines_bytes before + into
  pub chars_before : AreCharsWithin utf8_len line.content into chars
  pub number : at.line ≡ length before
  pub character : at.character ≡ sum_by (units_of enc) chars

-- the position of the byte offset in UTF-16, the encoding of every client that has agreed on none
abbrev pub IsPosition : List ℕ → ℕ → Pos → Type 0
IsPosition text offset at = IsPositionIn Utf16 text offset at

-- the place is between a `\r` and its `\n`
abbrev pub IsInsideBreak : List ℕ → ℕ → Type 0
IsInsideBreak text offset = (n : ℕ) × (offset ≡ n + 1) × (slice_get text n ≡ Some 13) × (slice_get text offset ≡ Some 10)
