-- The first item of a list that passes, or None where none does.
-- Held against `Iterator::find` of Rust's library.
use Rattle.std.specs.Prelude.{ℕ, List, Option, Some, None, Contains}
use Rattle.lw_grammar.specs.Named.{IsFirst}

pub data IsFirstIn {X : Type 0} (passes : X → Type 0) (xs : List X) : Option X → Type 0 where
  found : {i : ℕ} {x : X} → IsFirst passes xs i x → IsFirstIn passes xs (Some x)
  none : ((x : X) → Contains xs x → ¬ passes x) → IsFirstIn passes xs None
