-- What was read of a whole, once its first tokens have these kinds: its marks up to the last of these tokens, or up to the end of a value that
-- stands directly behind that one. Where no token was read, nothing is said.
-- Held against the textbooks' viable prefixes.
use Rattle.std.specs.Prelude.{ℕ, ◌≡◌, List, [], ◌∷◌, ◌++◌}
use Rattle.lw_grammar.specs.Marks.{Mark, kinds_of, Token, End}

-- the last of the marks is a token, or the end of a value directly behind a token
pub data EndsRead : List Mark → Type 0 where
  token : (before : List Mark) (k : ℕ) → EndsRead (before ++ Token k ∷ [])
  value : (before : List Mark) (k : ℕ) → EndsRead (before ++ Token k ∷ End ∷ [])

-- some whole begins with the marks, their tokens have these kinds, and they end so
pub record IsReadSoFar (Whole : List Mark → Type 0) (ks : List ℕ) (m : List Mark) : Type 0 where
  pub others : List Mark
  pub whole : Whole (m ++ others)
  pub kinds_are : kinds_of m ≡ ks
  pub ends : EndsRead m
