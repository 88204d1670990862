-- What is known of a pattern's matches in a text.
use Rattle.std.specs.Prelude.{ℕ, List}

-- a pattern, and a text in which it is tried
pub record Tried : Type 0 where
  pub pattern : List ℕ
  pub text : List ℕ
