-- The lines of a header part. Language Server Protocol 3.17, Base Protocol, Header Part: each header field is ended by "\r\n".
-- A "\n" or a "\r" that stands alone is a byte of its line.
use Rattle.std.specs.Prelude.{ℕ, List, [], ◌∷◌, ◌++◌, length, drop, flat_map, nat_eq, ◌==◌, Bool, if◌then◌else◌}
use Rattle.std.specs.List.{starts_with, onto_first}

-- "\r\n"
abbrev pub line_end : List ℕ
line_end = 13 ∷ 10 ∷ []

-- the first part cut in two where it begins with a line end
abbrev pub cut_first : List (List ℕ) → List (List ℕ)
cut_first [] = []
cut_first (part ∷ others) = if starts_with nat_eq part line_end then [] ∷ drop 2 part ∷ others else part ∷ others

-- what stands before, between and behind the line ends
abbrev pub parts : List ℕ → List (List ℕ)
parts [] = [] ∷ []
parts (b ∷ bytes) = cut_first (onto_first b (parts bytes))

-- all but the last
abbrev pub front : List (List ℕ) → List (List ℕ)
front [] = []
front (part ∷ []) = []
front (part ∷ next ∷ others) = part ∷ front (next ∷ others)

-- the lines: a part is one where a line end follows
abbrev pub lines : List ℕ → List (List ℕ)
lines bytes = front (parts bytes)

-- what stands behind the last line end
abbrev pub last_part : List (List ℕ) → List ℕ
last_part [] = []
last_part (part ∷ []) = part
last_part (part ∷ next ∷ others) = last_part (next ∷ others)

abbrev pub current_line : List ℕ → List ℕ
current_line bytes = last_part (parts bytes)

-- the bytes of lines, each with its line end
abbrev pub joined : List (List ℕ) → List ℕ
joined ls = flat_map (λ line. line ++ line_end) ls

abbrev pub is_empty : List ℕ → Bool
is_empty line = length line == 0
