-- The cut of a text into tokens: at each place the next token, until the text ends.
use Rattle.std.specs.Prelude.{ℕ, ◌≡◌, ◌+◌, ◌<◌, List, [], ◌∷◌, ◌++◌, Some, None, not, filter, map, drop, length, encode_utf8}
use Rattle.std.specs.Char.{IsScalar}
use Rattle.lw_base.specs.declared.token.Span.{Span}
use Rattle.lw_base.specs.declared.token.Token.{Token}
use Rattle.lw_tokens.specs.Lexicon.{Lexicon}
use Rattle.lw_tokens.specs.NextToken.{Next, IsNextToken}

-- the token that stands at a place
abbrev pub token_at : ℕ → Next → Token
token_at at next = record { kind = record { 0 = next.kind }; span = record { start = at; end = at + next.bytes }; hidden = next.hidden }

module _ (lexicon : Lexicon) (text : List ℕ) where
  -- the text up to a place is cut into these tokens
  pub data IsCutTo : ℕ → List Token → Type 0 where
    start : IsCutTo 0 []
    then : {at : ℕ} {tokens : List Token} {next : Next} → IsCutTo at tokens → at < length text → IsNextToken lexicon (drop at text) (Some next) →
        IsCutTo (at + next.bytes) (tokens ++ token_at at next ∷ [])

  -- the text is cut into these tokens
  abbrev pub IsCut : List Token → Type 0
  IsCut tokens = IsCutTo (length text) tokens

  -- no token stands at this place, and the text before it is cut into tokens
  pub record HasNoTokenAt (at : ℕ) : Type 0 where
    pub before : List Token
    pub cut : IsCutTo at before
    pub inside : at < length text
    pub none : IsNextToken lexicon (drop at text) None

-- the character that begins at a place
abbrev pub IsCharacterAt : List ℕ → Span → Type 0
IsCharacterAt text s = (c : ℕ) × IsScalar c × (rest : List ℕ) × (drop s.start text ≡ encode_utf8 c ++ rest) × (s.end ≡ s.start + length (encode_utf8 c))

-- the tokens that the parser reads
abbrev pub visible : List Token → List Token
visible tokens = filter (λ t. not t.hidden) tokens

-- the kinds of these tokens, in order
abbrev pub kinds : List Token → List ℕ
kinds tokens = map (λ t. t.kind.0) tokens
