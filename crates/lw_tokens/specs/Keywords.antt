-- Keywords that can be told apart: the longest that a text begins with is then one, and takes a byte at least.
use Rattle.std.specs.Prelude.{ℕ, ◌<◌, ◌≢◌, List, length, All, AllPairs}

-- no keyword is empty, and no two are equal
pub record AreKeywords (keywords : List (List ℕ)) : Type 0 where
  pub not_empty : All (λ text. 0 < length text) keywords
  pub distinct : AllPairs (λ text other. text ≢ other) keywords
