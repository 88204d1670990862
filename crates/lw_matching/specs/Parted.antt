-- A cut that is parted at one of its places: the tokens before it, and those of the text behind it, cut by itself.
-- Held against the rule of the cut: at each place the next token is that of the text from there on.
use Rattle.std.specs.Prelude.{◌≡◌, ℕ, ◌+◌, List, ◌++◌, drop, map}
use Rattle.lw_base.specs.declared.token.Token.{Token}
use Rattle.lw_tokens.specs.Lexicon.{Lexicon}
use Rattle.lw_tokens.specs.Cut.{IsCut}

-- the token so many bytes further on
abbrev pub moved : ℕ → Token → Token
moved by t = record t { span = record { start = by + t.span.start; end = by + t.span.end } }

-- all these tokens are those before the place and, moved to it, those of the text behind it
pub record IsParted (lexicon : Lexicon) (text : List ℕ) (to : ℕ) (tokens all : List Token) : Type 0 where
  pub others : List Token
  pub cut : IsCut lexicon (drop to text) others
  pub all_are : all ≡ tokens ++ map (moved to) others
