-- Tokens that begin one behind the other, as those of a file do.
use Rattle.std.proofs.Common.{ℕ, zero, suc, ◌≡◌, ◌+◌, ◌<◌, ◌≤◌, List, [], ◌∷◌, length, true, drop, arith}
use Rattle.std.proofs.lemmas.Str.{length-encode, len_utf8_bounds}
use Rattle.lw_base.specs.declared.token.Span.{Span}
use Rattle.lw_gramlex.specs.declared.token.FileKind.{FileKind}
use Rattle.lw_gramlex.specs.declared.token.FileKind.TheVariants as kind
use Rattle.lw_gramlex.specs.declared.token.FileToken.{FileToken}
use Rattle.lw_gramlex.specs.FileCut.{IsFileCut}
use Rattle.lw_gramlex.specs.FileTokens.{IsWord, IsFileToken}
use Rattle.lw_gramlex.specs.Symbols.{spelling}
use Rattle.lw_gramlex.specs.Values.{part_of}
use Rattle.lw_gramlex.proofs.CutLemmas.{IsCutFrom, whole, token_from}
use Rattle.lw_gramlex.proofs.PlaceLemmas.{is_short, symbol_short}
use Rattle.lw_gramread.specs.declared.lexeme.Lexeme.{Lexeme}
use Rattle.lw_gramread.specs.Lexemes.{saying, lexemes_of, place_of}

-- the first begins at this place or behind it, and each other behind where the one before it begins
pub data Rises : ℕ → List Lexeme → Type 0 where
  none : {low : ℕ} → Rises low []
  more : {low : ℕ} {t : Lexeme} {ts : List Lexeme} → low ≤ (place_of t).start → Rises (suc (place_of t).start) ts → Rises low (t ∷ ts)

weaker : {low high : ℕ} {ts : List Lexeme} → low ≤ high → Rises high ts → Rises low ts
weaker below Rises.none = Rises.none
weaker below (Rises.more from after) = Rises.more (omega (arith, below, from)) after

pub later : {low : ℕ} {t : Lexeme} {ts : List Lexeme} → Rises low (t ∷ ts) → Rises low ts
later (Rises.more from after) = weaker (omega (arith, from)) after

-- ---- no token is empty

word_long : (t : List ℕ) (n : ℕ) → IsWord t n → 0 < n
word_long t n (IsWord.plain w) = omega (arith, w.bytes)
word_long t _ (IsWord.marked after e w) = omega (arith, w.bytes)

short_long : (bytes : List ℕ) → is_short bytes ≡ true → 0 < length bytes
short_long [] short = absurd cc
short_long (b ∷ bytes) short = omega arith

token_long : (t : List ℕ) (k : FileKind) (n : ℕ) → IsFileToken t k n → 0 < n
token_long t _ n (IsFileToken.word w) = word_long t n w
token_long t _ n (IsFileToken.string s) = omega (arith, s.bytes)
token_long t _ n (IsFileToken.regex r) = omega (arith, r.bytes)
token_long t _ _ (IsFileToken.symbol s is) = short_long (spelling s) (symbol_short s)
token_long t _ _ (IsFileToken.other c begins no_hidden no_word no_string no_regex no_symbol) = omega (arith, length-encode c, (len_utf8_bounds c).0)

-- ---- the tokens of a file

-- one more token, whatever it says
begun : {low : ℕ} {ts : List Lexeme} (k : FileKind) (bytes : List ℕ) (s : Span) → low ≤ s.start → Rises (suc s.start) ts → Rises low (saying k bytes s ∷ ts)
begun kind.Word bytes s from after = Rises.more from after
begun kind.Text bytes s from after = Rises.more from after
begun (kind.Regex zero) bytes s from after = Rises.more from after
begun (kind.Regex (suc flags)) bytes s from after = Rises.more from after
begun (kind.Symbol x) bytes s from after = Rises.more from after
begun kind.Other bytes s from after = Rises.more from after

module _ (text : List ℕ) where
  cut_rises : (at : ℕ) (tokens : List FileToken) → IsCutFrom text at tokens → Rises at (lexemes_of text tokens)
  cut_rises at _ (IsCutFrom.done e) = Rises.none
  cut_rises at tokens (IsCutFrom.passed n within hidden after) = weaker (omega arith) (cut_rises (at + n) tokens after)
  cut_rises at _ (IsCutFrom.then {tokens} {kind = k} n within token after) =
      begun k (part_of text (token_from at n k).span) (token_from at n k).span (omega arith)
      (weaker (omega (arith, token_long (drop at text) k n token)) (cut_rises (at + n) tokens after))

  pub file_rises : (tokens : List FileToken) → IsFileCut text tokens → Rises 0 (lexemes_of text tokens)
  file_rises tokens cut = cut_rises 0 tokens (whole text tokens cut)
