-- The tokens of a text in which a name is written: those before it, its own, and those behind it.
use Rattle.std.specs.Prelude.{ℕ, List, ◌++◌, length, map}
use Rattle.lw_base.specs.declared.token.Token.{Token}
use Rattle.lw_places.specs.Starting.{moved_by}
use Rattle.lw_tokens.specs.Cut.{IsCut}
use Rattle.lw_tokens.specs.Lexicon.{Lexicon}

-- No token reaches over either end of the name: `tokens` are those of the front, `added` those of the name behind it, and `others` those of the rest, as
-- they would stand in a text of its own.
pub record IsCutAround (lexicon : Lexicon) (front name rest : List ℕ) (tokens added others : List Token) : Type 0 where
  pub before : IsCut lexicon front tokens
  pub named : IsCut lexicon (front ++ name) (tokens ++ added)
  pub whole : IsCut lexicon (front ++ name ++ rest) (tokens ++ added ++ map (moved_by (length (front ++ name))) others)
