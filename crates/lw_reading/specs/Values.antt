-- What the token of a terminal means, by its text: the return type of the terminal is looked at first, its name after that.
-- Held against the Langium documentation, "Value converters": `ID` without a caret, `STRING` without its quotes and with its escapes read,
-- and numbers.
use mir.Syntax.{w64}
use Rattle.std.specs.Prelude.{ℕ, ◌≡◌, ◌≢◌, ◌-◌, List, take, drop, length, nat_lt, FitsSigned, codes, chars, encode_utf8_all, bytes_eq, if◌then◌else◌}
use Rattle.std.specs.Str.Parse.{IsNumeral, without_leading_sign, signed_digits_value}
use Rattle.lw_base.specs.declared.token.Span.{Span}
use Rattle.lw_grammar.specs.declared.terminal.Terminal.{Terminal}
use Rattle.lw_grammar.specs.declared.terminal.Primitive.TheVariants as primitive
use Rattle.lw_gramlex.specs.Values.{with_escapes_read, word_name}
use Rattle.lw_reading.specs.Grown.{Plain, Text, Number, Huge, Raw}

-- the text without its first and its last character
abbrev pub inner_text : List ℕ → List ℕ
inner_text text = encode_utf8_all (take (length (chars text) - 2) (drop 1 (chars text)))

-- what stands between the quotes, with its escapes read; a text of fewer than two characters is kept
abbrev pub unquoted : List ℕ → List ℕ
unquoted text = if nat_lt (length (chars text)) 2 then text else with_escapes_read (inner_text text)

-- what the token of a terminal of this name says
abbrev pub text_said : List ℕ → List ℕ → List ℕ
text_said name text =
    if bytes_eq name (codes "ID") then word_name text else if bytes_eq name (codes "STRING") then unquoted text else text

-- a sign or none and digits are a number, which may be too large for 64 bits; any other text of a number's token is kept
pub data NumberMeans (text : List ℕ) (s : Span) : Plain → Type 0 where
  fits : IsNumeral 10 (without_leading_sign text) → FitsSigned w64 (signed_digits_value 10 text) → NumberMeans text s (Number (signed_digits_value 10 text) s)
  too_large : IsNumeral 10 (without_leading_sign text) → ¬ FitsSigned w64 (signed_digits_value 10 text) → NumberMeans text s (Huge s)
  no_number : ¬ IsNumeral 10 (without_leading_sign text) → NumberMeans text s (Raw text s)

-- the value of a token, whose text and place these are
pub data TokenMeans (terminal : Terminal) (text : List ℕ) (s : Span) : Plain → Type 0 where
  number : {v : Plain} → terminal.gives ≡ primitive.Number → NumberMeans text s v → TokenMeans terminal text s v
  words : terminal.gives ≢ primitive.Number → TokenMeans terminal text s (Text (text_said terminal.name text) s)

-- the name that a reference looks up by a token with this text
pub data TokenNames (terminal : Terminal) (text : List ℕ) : List ℕ → Type 0 where
  number : terminal.gives ≡ primitive.Number → TokenNames terminal text text
  words : terminal.gives ≢ primitive.Number → TokenNames terminal text (text_said terminal.name text)
