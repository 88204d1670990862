-- The tokens of a cut have kinds of the lexicon, and stand side by side in the text.
use Rattle.std.proofs.Common.{◌≡◌, ℕ, ◌+◌, ◌<◌, ◌≤◌, List, [], ◌∷◌, ◌++◌, length, arith, All, Bool, true, false, not, Option, IfSome, refl, sym, ◌∙◌}
use Rattle.std.specs.Prelude.{if◌then◌else◌}
use Rattle.std.proofs.lemmas.List.Elements.{All-nil, All-cons, All-head, All-tail, All-push, All-weaker}
use Rattle.std.proofs.lemmas.Option.{slice_get_within}
use Rattle.lw_base.specs.declared.token.Token.{Token}
use Rattle.lw_gramlex.specs.Places.{IsPlace}
use Rattle.lw_lexer.specs.TokenPlaces.{IsTokenPlace}
use Rattle.lw_tokens.specs.Lexicon.{Lexicon}
use Rattle.lw_tokens.specs.NextToken as next
use Rattle.lw_tokens.specs.NextToken.{Next, IsNextToken}
use Rattle.lw_tokens.specs.Cut as cut
use Rattle.lw_tokens.specs.Cut.{IsCutTo, visible}
use Rattle.lw_reading.specs.Within as within
use Rattle.lw_reading.specs.Within.{StandInRow}
use Rattle.lw_tree.specs.Parts as parts
use Rattle.lw_tree.specs.Parts.{Tile}

-- ---- kinds

module _ (lexicon : Lexicon) (text : List ℕ) where
  abbrev pub count : ℕ
  count = length lexicon.keywords + length lexicon.terminals

  abbrev pub IsKnown : Token → Type 0
  IsKnown t = t.kind.0 < count

  kind_known : (rest : List ℕ) {o : Option Next} → IsNextToken lexicon rest o → IfSome o (λ n. n.kind < count)
  kind_known rest (next.longer_terminal {i} {form} longest over there) =
      let within = slice_get_within lexicon.terminals i form there in omega arith
  kind_known rest (next.keyword {k} longest none) =
      let within = slice_get_within lexicon.keywords k longest.keyword longest.there in omega arith
  kind_known rest (next.terminal {i} {form} none over there) =
      let within = slice_get_within lexicon.terminals i form there in omega arith
  kind_known rest (next.no_token none over) = tt

  pub all_known : {at : ℕ} {tokens : List Token} → IsCutTo lexicon text at tokens → All IsKnown tokens
  all_known cut.start = All-nil IsKnown
  all_known (cut.then {at} {tokens} {next = n} before inside is) = All-push IsKnown tokens (cut.token_at at n) (all_known before) (kind_known _ is)

-- ---- places

-- one token directly behind the other, from one place to another
abbrev TilesTo : ℕ → List Token → ℕ → Type 0
TilesTo from [] at = from ≡ at
TilesTo from (t ∷ ts) at = (t.span.start ≡ from) × (from < t.span.end) × TilesTo t.span.end ts at

one_more : (from : ℕ) (ts : List Token) (at : ℕ) (t : Token) → TilesTo from ts at → t.span.start ≡ at → at < t.span.end → TilesTo from (ts ++ t ∷ []) t.span.end
one_more from [] at t same start below = (start ∙ sym same, omega (arith, same, below), refl)
one_more from (x ∷ ts) at t tiles start below = (tiles.0, tiles.1, one_more x.span.end ts at t tiles.2 start below)

tile : (from : ℕ) (ts : List Token) (at : ℕ) → TilesTo from ts at → Tile from ts
tile from [] at tiles = parts.none
tile from (t ∷ ts) at tiles = parts.more tiles.0 tiles.1 (tile t.span.end ts at tiles.2)

-- what holds of each with one more, holds of each and of that one
front_all : {X : Type 0} (P : X → Type 0) (xs : List X) (x : X) → All P (xs ++ x ∷ []) → All P xs × P x
front_all P [] x all = (All-nil P, All-head P x [] all)
front_all P (y ∷ xs) x all = by (front_all P xs x (All-tail P y (xs ++ x ∷ []) all))
  where
    by : All P xs × P x → All P (y ∷ xs) × P x
    by both = (All-cons P y xs (All-head P y (xs ++ x ∷ []) all) both.0, both.1)

module _ (lexicon : Lexicon) (text : List ℕ) where
  tiles_to : {at : ℕ} {tokens : List Token} → IsCutTo lexicon text at tokens → All (IsTokenPlace text) tokens → TilesTo 0 tokens at
  tiles_to cut.start places = refl
  tiles_to (cut.then {at} {tokens} {next = n} before inside is) places =
      let each = front_all (IsTokenPlace text) tokens (cut.token_at at n) places in
      one_more 0 tokens at (cut.token_at at n) (tiles_to before each.0) refl each.1.not_empty

  pub tiles : {at : ℕ} {tokens : List Token} → IsCutTo lexicon text at tokens → All (IsTokenPlace text) tokens → Tile 0 tokens
  tiles {at} {tokens} is places = tile 0 tokens at (tiles_to is places)

  pub are_parts : (tokens : List Token) → All (IsTokenPlace text) tokens → All (λ t. IsPlace text t.span) tokens
  are_parts tokens places =
      All-weaker (IsTokenPlace text) (λ t. IsPlace text t.span) (λ t place. record {
        not_empty = place.not_empty;
        within = place.within;
        starts = place.starts;
        ends = place.ends;
      })
      tokens places

  -- ---- those that are not hidden

  earlier : {from before : ℕ} {ts : List Token} → before ≤ from → StandInRow text from ts → StandInRow text before ts
  earlier below within.none = within.none
  earlier below (within.more behind inside rest) = within.more (omega (arith, below, behind)) inside rest

  in_row : (from : ℕ) (ts : List Token) (at : ℕ) → TilesTo from ts at → All (IsTokenPlace text) ts → StandInRow text from (visible ts)
  in_row from [] at tiles places = within.none
  in_row from (t ∷ ts) at tiles places = by t.hidden (in_row t.span.end ts at tiles.2 (All-tail (IsTokenPlace text) t ts places))
    where
      place : IsTokenPlace text t
      place = All-head (IsTokenPlace text) t ts places

      by : (b : Bool) → StandInRow text t.span.end (visible ts) → StandInRow text from (if not b then t ∷ visible ts else visible ts)
      by true rest = earlier (omega (arith, tiles.1)) rest
      by false rest = within.more (omega (arith, tiles.0)) (omega (arith, place.not_empty), place.within) rest

  pub stand_in_row : {at : ℕ} {tokens : List Token} → IsCutTo lexicon text at tokens → All (IsTokenPlace text) tokens → StandInRow text 0 (visible tokens)
  stand_in_row {at} {tokens} is places = in_row 0 tokens at (tiles_to is places) places
