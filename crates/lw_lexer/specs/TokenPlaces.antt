-- Where the tokens of a text stand.
use Rattle.std.specs.Prelude.{ℕ, ◌<◌, ◌≤◌, List, length, IsCharBoundary}
use Rattle.lw_base.specs.declared.token.Token.{Token}

-- the token is a part of the text that is not empty and splits no character
pub record IsTokenPlace (text : List ℕ) (t : Token) : Type 0 where
  pub not_empty : t.span.start < t.span.end
  pub within : t.span.end ≤ length text
  pub starts : IsCharBoundary text t.span.start
  pub ends : IsCharBoundary text t.span.end
