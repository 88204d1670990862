-- The lines of a text, as the Language Server Protocol 3.17 has them ("Text Documents"): a line ends with `\n`, `\r\n` or `\r`.
use Rattle.std.specs.Prelude.{ℕ, ◌≢◌, ◌+◌, List, [], ◌∷◌, ◌++◌, length, sum_by, All}
use Rattle.std.specs.List.{flat_map}

-- a carriage return is 13, a line feed 10
abbrev pub IsNoBreak : ℕ → Type 0
IsNoBreak c = (c ≢ 13) × (c ≢ 10)

-- a line: what stands in it, and the bytes that end it, none in the last line
pub record Line : Type 0 where
  pub content : List ℕ
  pub ending : List ℕ

-- what ends a line before the rest of the text: a `\r` with a `\n` behind it is one ending with it
pub data IsEnding (rest : List ℕ) : List ℕ → Type 0 where
  line_feed : IsEnding rest (10 ∷ [])
  both : IsEnding rest (13 ∷ 10 ∷ [])
  carriage_return : ((more : List ℕ) → rest ≢ 10 ∷ more) → IsEnding rest (13 ∷ [])

-- the lines that a text is cut into, one at least
pub data AreLines : List ℕ → List Line → Type 0 where
  last : {content : List ℕ} → All IsNoBreak content → AreLines content (record { content = content; ending = [] } ∷ [])
  next : {content ending rest : List ℕ} {lines : List Line} → All IsNoBreak content → IsEnding rest ending → AreLines rest lines →
      AreLines (content ++ ending ++ rest) (record { content = content; ending = ending } ∷ lines)

-- the lines one after the other, each with what ends it
abbrev pub joined_lines : List Line → List ℕ
joined_lines lines = flat_map (λ line. line.content ++ line.ending) lines

-- how many bytes a line takes, with what ends it
abbrev pub line_bytes : Line → ℕ
line_bytes line = length line.content + length line.ending

abbrev pub lines_bytes : List Line → ℕ
lines_bytes lines = sum_by line_bytes lines
