-- Lists that share their ends, kept as cells: each has an item and the number of the list below it. The list of number 0 is empty, and cells
-- are numbered from 1 in the order of being put in.
use Rattle.std.specs.Prelude.{ℕ, ◌+◌, ◌==◌, List, [], ◌∷◌, length, if◌then◌else◌}

-- the list of a number, where the latest cell stands first; a number that no cell has is that of no items
abbrev pub chain : {X : Type 0} → List (X × ℕ) → ℕ → List X
chain [] link = []
chain (cell ∷ older) link = if link == length older + 1 then cell.0 ∷ chain older cell.1 else chain older link
