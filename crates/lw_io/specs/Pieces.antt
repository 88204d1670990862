-- The pieces in which bytes are given.
use Rattle.std.specs.Prelude.{ℕ, ◌-◌, List, [], ◌∷◌, min, max, nat_lt, if◌then◌else◌}

-- how many of the bytes left the next piece has: a size of 0 counts as 1, and after the last piece all is given whole
abbrev pub piece_size : List ℕ → ℕ → ℕ
piece_size [] left = left
piece_size (size ∷ pieces) left = min (max size 1) left

-- the pieces to come after n bytes of them were given: a piece that is longer is given in parts
abbrev pub pieces_after : List ℕ → ℕ → List ℕ
pieces_after [] n = []
pieces_after (size ∷ pieces) n = if nat_lt n (max size 1) then (max size 1 - n) ∷ pieces else pieces
