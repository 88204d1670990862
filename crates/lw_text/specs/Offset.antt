-- The place in a text that a position means, as a number of bytes: the Language Server Protocol 3.17, "Position", where a character past
-- the line's end is the line's end. The protocol leaves open what a line past the last means: it is the text's end.
use Rattle.std.specs.Prelude.{ℕ, ◌≡◌, ◌+◌, ◌≤◌, List, ◌∷◌, ◌++◌, length, encode_utf8_all}
use Rattle.lw_text.specs.Lines.{Line, AreLines, lines_bytes}
use Rattle.lw_text.specs.Position.{AreCharsWithin, units_of}
use Rattle.lw_text.specs.declared.place.Pos.{Pos}
use Rattle.lw_text.specs.declared.units.Encoding.{Encoding}

-- The position's line is there: the place is behind the whole characters of what stands in that line that the position counts. So a place
-- inside a character is where it begins, and one past them all is the line's end, before what ends the line.
pub record IsOffsetInLine (enc : Encoding) (text : List ℕ) (at : Pos) (offset : ℕ) : Type 0 where
  pub before : List Line
  pub line : Line
  pub after : List Line
  pub chars : List ℕ
  pub cut : AreLines text (before ++ line ∷ after)
  pub number : at.line ≡ length before
  pub chars_before : AreCharsWithin (units_of enc) line.content at.character chars
  pub far : offset ≡ lines_bytes before + length (encode_utf8_all chars)

-- the text has no such line
pub record IsOffsetPastLines (text : List ℕ) (at : Pos) (offset : ℕ) : Type 0 where
  pub lines : List Line
  pub cut : AreLines text lines
  pub past : length lines ≤ at.line
  pub far : offset ≡ length text

-- the place that the position means, in the encoding
pub data IsOffset (enc : Encoding) (text : List ℕ) (at : Pos) (offset : ℕ) : Type 0 where
  in_line : IsOffsetInLine enc text at offset → IsOffset enc text at offset
  past_lines : IsOffsetPastLines text at offset → IsOffset enc text at offset
