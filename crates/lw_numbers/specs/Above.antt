-- The rows of the table of types, in words of the code.
use Rattle.std.specs.Prelude.{ℕ, ◌≡◌, ◌<◌, ◌↔◌, List, Some, length, slice_get, Contains}
use Rattle.lw_graph.specs.Walks.{Links, Walks}
use Rattle.lw_numbers.specs.Ascending.{IsAscending}

-- the first so many nodes that are reached from this one
pub record IsRow (graph : Links) (count from : ℕ) (row : List ℕ) : Type 0 where
  pub each : (n : ℕ) → Contains row n ↔ ((n < count) × Walks graph from n)
  pub ascending : IsAscending row

-- the rows of the first so many
pub record AreRows (graph : Links) (count first : ℕ) (rows : List (List ℕ)) : Type 0 where
  pub all : length rows ≡ first
  pub rows_are : (from : ℕ) (row : List ℕ) → slice_get rows from ≡ Some row → IsRow graph count from row
