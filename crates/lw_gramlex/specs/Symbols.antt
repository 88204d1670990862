-- The symbols of a grammar file, as they are written.
use Rattle.std.specs.Prelude.{ℕ, ◌≡◌, ◌≤◌, List, length, nat_eq, true, codes}
use Rattle.std.specs.List.{starts_with}
use Rattle.lw_gramlex.specs.declared.token.Symbol.{Symbol}
use Rattle.lw_gramlex.specs.declared.token.Symbol.TheVariants.{DotDot, PlusEquals, QuestionEquals, FatArrow, ThinArrow, Colon, Semicolon, Question, Star, Plus, Bar, OpenParenthesis, CloseParenthesis, OpenBracket, CloseBracket, OpenBrace, CloseBrace, Comma, Dot, At, Equals, Less, Greater, Ampersand, Exclamation}

abbrev pub spelling : Symbol → List ℕ
spelling DotDot = codes ".."
spelling PlusEquals = codes "+="
spelling QuestionEquals = codes "?="
spelling FatArrow = codes "=>"
spelling ThinArrow = codes "->"
spelling Colon = codes ":"
spelling Semicolon = codes ";"
spelling Question = codes "?"
spelling Star = codes "*"
spelling Plus = codes "+"
spelling Bar = codes "|"
spelling OpenParenthesis = codes "("
spelling CloseParenthesis = codes ")"
spelling OpenBracket = codes "["
spelling CloseBracket = codes "]"
spelling OpenBrace = codes "{"
spelling CloseBrace = codes "}"
spelling Comma = codes ","
spelling Dot = codes "."
spelling At = codes "@"
spelling Equals = codes "="
spelling Less = codes "<"
spelling Greater = codes ">"
spelling Ampersand = codes "&"
spelling Exclamation = codes "!"

-- the text begins with these bytes
abbrev pub BeginsSpelling : List ℕ → List ℕ → Type 0
BeginsSpelling text front = starts_with nat_eq text front ≡ true

-- the longest symbol that the text begins with
pub record IsSymbol (text : List ℕ) (symbol : Symbol) : Type 0 where
  pub begins : BeginsSpelling text (spelling symbol)
  pub longest : (other : Symbol) → BeginsSpelling text (spelling other) → length (spelling other) ≤ length (spelling symbol)
