-- The cut of a grammar file into its tokens: at each place what is passed over, or the token that stands there.
use Rattle.std.specs.Prelude.{ℕ, ◌≡◌, ◌+◌, ◌<◌, ◌⊎◌, List, [], ◌∷◌, ◌++◌, drop, length}
use Rattle.lw_gramlex.specs.declared.token.FileKind.{FileKind}
use Rattle.lw_gramlex.specs.declared.token.FileKind.TheVariants.{Other}
use Rattle.lw_gramlex.specs.declared.token.FileToken.{FileToken}
use Rattle.lw_gramlex.specs.FileTokens.{IsHidden, IsFileToken}

module _ (text : List ℕ) where
  -- the text up to a place is cut into these tokens
  pub data IsFileCutTo : ℕ → List FileToken → Type 0 where
    start : IsFileCutTo 0 []
    passed : {at n : ℕ} {tokens : List FileToken} → IsFileCutTo at tokens → at < length text → IsHidden (drop at text) n → IsFileCutTo (at + n) tokens
    then : {at n : ℕ} {tokens : List FileToken} {kind : FileKind} → IsFileCutTo at tokens → at < length text → IsFileToken (drop at text) kind n →
        IsFileCutTo (at + n) (tokens ++ record { kind = kind; span = record { start = at; end = at + n } } ∷ [])

  -- the whole text is cut into these tokens; every text has one cut
  abbrev pub IsFileCut : List FileToken → Type 0
  IsFileCut tokens = IsFileCutTo (length text) tokens

  -- the last of the tokens is none and can follow nowhere
  abbrev pub EndsStray : List FileToken → Type 0
  EndsStray tokens = (before : List FileToken) × (t : FileToken) × (tokens ≡ before ++ t ∷ []) × (t.kind ≡ Other)

  -- the text is cut into these tokens as far as it can be read: to its end, or up to one that can follow nowhere
  abbrev pub IsFrontCut : List FileToken → Type 0
  IsFrontCut tokens = (at : ℕ) × IsFileCutTo at tokens × ((at ≡ length text) ⊎ EndsStray tokens)
