-- Tokens of two texts that say the same.
use Rattle.std.specs.Prelude.{ℕ, ◌≡◌, List, slice_range}
use Rattle.std.specs.List.{AllZip}
use Rattle.lw_base.specs.declared.token.Token.{Token}

module _ (text other : List ℕ) where
  -- a token of the one text and one of the other: of one kind, with the same bytes
  pub record IsSameToken (t u : Token) : Type 0 where
    pub kind : t.kind ≡ u.kind
    pub bytes : slice_range text t.span.start t.span.end ≡ slice_range other u.span.start u.span.end

  -- so token by token, and as many
  abbrev pub AreSameTokens : List Token → List Token → Type 0
  AreSameTokens ts us = AllZip IsSameToken ts us
