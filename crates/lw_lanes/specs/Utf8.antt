-- What one byte of a UTF-8 text says: The Unicode Standard, section 3.9, tables 3-6 and 3-7.
use Rattle.std.specs.Prelude.{ℕ, Bool, not, ◌&&◌, ◌+◌, List, nat_le, count_by}
use Rattle.std.specs.List.{flat_map}
use Rattle.std.specs.Str.{chars}
use Rattle.std.specs.Char.Escape.{encode_utf16}

-- a byte inside a character, `10xxxxxx`
abbrev pub is_continuation : ℕ → Bool
is_continuation byte = nat_le 128 byte && nat_le byte 191

-- a byte that begins a character, of which every character has one. Bytes that stand in no UTF-8 text, as 255, count as beginnings too
abbrev pub begins_character : ℕ → Bool
begins_character byte = not (is_continuation byte)

-- a byte that begins a character of four bytes, `11110xxx`: these are the characters from U+10000 on, which take a pair of units in UTF-16
abbrev pub begins_pair : ℕ → Bool
begins_pair byte = nat_le 240 byte

-- how many characters begin in the bytes
abbrev pub characters : List ℕ → ℕ
characters bytes = count_by begins_character bytes

-- how many units of UTF-16 these characters take: one each, and one more for each that takes a pair
abbrev pub utf16_units : List ℕ → ℕ
utf16_units bytes = count_by begins_character bytes + count_by begins_pair bytes

-- the text in UTF-16, unit by unit: section 3.9, table 3-5
abbrev pub in_utf16 : List ℕ → List ℕ
in_utf16 text = flat_map encode_utf16 (chars text)
