-- What the tokens of a grammar file say: the name of a word, the value of a string, the text of a regular expression.
use Rattle.std.specs.Prelude.{ℕ, ◌-◌, ◌==◌, List, [], ◌∷◌, length, take, drop, Bool, codes, bytes_eq, if◌then◌else◌}
use Rattle.std.specs.List.{list_any}
use Rattle.lw_base.specs.declared.token.Span.{Span}

-- the part of a text that a span names
abbrev pub part_of : List ℕ → Span → List ℕ
part_of text s = take (s.end - s.start) (drop s.start text)

-- the name that a word's token means: the `^` is no part of it
abbrev pub word_name : List ℕ → List ℕ
word_name [] = []
word_name (c ∷ cs) = if c == 94 then cs else c ∷ cs

-- the words that mean themselves, unless they are written with `^`
abbrev pub reserved_words : List (List ℕ)
reserved_words =
    codes "entry" ∷ codes "extends" ∷ codes "fragment" ∷ codes "grammar" ∷ codes "hidden" ∷ codes "import" ∷ codes "infer" ∷ codes "infers"
    ∷ codes "interface" ∷ codes "returns" ∷ codes "terminal" ∷ codes "type" ∷ codes "current" ∷ codes "string" ∷ codes "number" ∷ codes "boolean"
    ∷ codes "bigint" ∷ codes "Date" ∷ []

abbrev pub is_reserved : List ℕ → Bool
is_reserved token = list_any (bytes_eq token) reserved_words

-- the character that a pair with a backslash means: b, f, n, r, t, v and 0 are control characters, any other is itself
abbrev pub escape : ℕ → ℕ
escape c =
    if c == 98 then 8 else if c == 102 then 12 else if c == 110 then 10 else if c == 114 then 13 else if c == 116 then 9
    else if c == 118 then 11 else if c == 48 then 0 else c

-- the text with its escapes read; a backslash at the end is itself
abbrev pub with_escapes_read : List ℕ → List ℕ
with_escapes_read [] = []
with_escapes_read (a ∷ []) = a ∷ []
with_escapes_read (a ∷ b ∷ rest) = if a == 92 then escape b ∷ with_escapes_read rest else a ∷ with_escapes_read (b ∷ rest)

-- the value of a string's token: what stands between its quotes, with its escapes read
abbrev pub string_value : List ℕ → List ℕ
string_value token = with_escapes_read (take (length token - 2) (drop 1 token))

-- the text between the slashes of a regular expression's token with so many flags
abbrev pub regex_text : ℕ → List ℕ → List ℕ
regex_text flags token = take (length token - flags - 2) (drop 1 token)
