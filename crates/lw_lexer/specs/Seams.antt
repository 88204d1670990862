-- How what stands at the place of a token in a text that goes on compares with the token.
use Rattle.std.specs.Prelude.{ℕ, ◌≡◌, ◌⊎◌, ◌<◌, Option, Some, None, ⊤}
use Rattle.lw_base.specs.declared.token.Token.{Token}
use Rattle.lw_tokens.specs.Cut.{token_at}
use Rattle.lw_tokens.specs.NextToken.{Next}
use Rattle.lw_lexer.specs.declared.recut.seam.Meeting.{Meeting}
use Rattle.lw_lexer.specs.declared.recut.seam.Meeting.TheVariants.{Same, Across, Other}

-- so many bytes are left up to the end of what was put in
abbrev pub IsMeeting : Option Next → Token → ℕ → Meeting → Type 0
IsMeeting found token left Same = (next : Next) × (found ≡ Some next) × (token_at token.span.start next ≡ token)
IsMeeting found token left Across = (found ≡ None) ⊎ ((next : Next) × (found ≡ Some next) × (left < next.bytes))
IsMeeting found token left Other = ⊤
