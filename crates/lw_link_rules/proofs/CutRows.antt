-- Each token of a text that is cut to its end has a byte: where one had none, none behind it would have one, and the cut would not go on.
use Rattle.std.proofs.Common.{◌≡◌, ℕ, zero, suc, ◌+◌, ◌<◌, ◌≤◌, List, [], ◌∷◌, ◌++◌, Bool, true, false, not, Option, IfSome, drop, length, ◌⊎◌, inl, inr, refl, subst, arith}
use Rattle.std.specs.Prelude.{if◌then◌else◌}
use Rattle.lw_base.specs.declared.token.Token.{Token}
use Rattle.lw_tokens.specs.Cut as cut
use Rattle.lw_tokens.specs.Cut.{IsCut, IsCutTo, token_at, visible}
use Rattle.lw_tokens.specs.Lexicon.{Lexicon}
use Rattle.lw_tokens.specs.NextToken as next
use Rattle.lw_tokens.specs.NextToken.{Next, IsNextToken, IsLongest, NoneOver, lengths}

-- tokens one behind the other, none of them empty, between these places
abbrev pub StandBetween : ℕ → ℕ → List Token → Type 0
StandBetween from to [] = from ≤ to
StandBetween from to (t ∷ ts) = (from ≤ t.span.start) × (t.span.start < t.span.end) × StandBetween t.span.end to ts

pushed : (from mid : ℕ) (ts : List Token) (t : Token) → StandBetween from mid ts → mid ≤ t.span.start → t.span.start < t.span.end →
    StandBetween from t.span.end (ts ++ t ∷ [])
pushed from mid [] t row behind filled = (omega (arith, row, behind), filled, omega arith)
pushed from mid (x ∷ ts) t row behind filled = (row.0, row.1, pushed x.span.end mid ts t row.2 behind filled)

-- what stands before the last token
pub record Before (from to : ℕ) (ts : List Token) (t : Token) : Type 0 where
  pub mid : ℕ
  pub front : StandBetween from mid ts
  pub behind : mid ≤ t.span.start
  pub filled : t.span.start < t.span.end
  pub ends : t.span.end ≤ to

pub before_last : (from to : ℕ) (ts : List Token) (t : Token) → StandBetween from to (ts ++ t ∷ []) → Before from to ts t
before_last from to [] t row = record { mid = from; front = omega arith; behind = row.0; filled = row.1; ends = row.2 }
before_last from to (x ∷ ts) t row =
    let rest = before_last x.span.end to ts t row.2 in
    record { mid = rest.mid; front = (row.0, row.1, rest.front); behind = rest.behind; filled = rest.filled; ends = rest.ends }

earlier : (from later to : ℕ) (ts : List Token) → from ≤ later → StandBetween later to ts → StandBetween from to ts
earlier from later to [] below row = omega (arith, below, row)
earlier from later to (t ∷ ts) below row = (omega (arith, below, row.0), row.1, row.2)

seen : (from to : ℕ) (ts : List Token) → StandBetween from to ts → StandBetween from to (visible ts)
seen from to [] row = row
seen from to (t ∷ ts) row = by t.hidden (seen t.span.end to ts row.2)
  where
    by : (b : Bool) → StandBetween t.span.end to (visible ts) → StandBetween from to (if not b then t ∷ visible ts else visible ts)
    by true rest = earlier from t.span.end to (visible ts) (omega (arith, row.0, row.1)) rest
    by false rest = (row.0, row.1, rest)

module _ (lexicon : Lexicon) where
  -- a keyword with no bytes is the token at the start of this text
  record IsStuck (text : List ℕ) : Type 0 where
    number : ℕ
    longest : IsLongest lexicon.keywords text number 0
    none : NoneOver 0 (lengths lexicon.terminals text)

  gets_stuck : (text : List ℕ) {o : Option Next} → IsNextToken lexicon text o → IfSome o (λ n. n.bytes ≡ 0 → IsStuck text)
  gets_stuck text (next.longer_terminal longest over there) = λ same. absurd (omega (arith, over.longer, same))
  gets_stuck text (next.keyword {k} {n} longest none) = λ same. record {
    number = k;
    longest = subst (IsLongest lexicon.keywords text k) same longest;
    none = subst (λ (m : ℕ). NoneOver m (lengths lexicon.terminals text)) same none;
  }
  gets_stuck text (next.terminal none over there) = λ same. absurd (omega (arith, over.longer, same))
  gets_stuck text (next.no_token none over) = tt

  shortest : (text : List ℕ) {k n : ℕ} → IsStuck text → IsLongest lexicon.keywords text k n → n ≡ 0
  shortest text {k} stuck longest =
      let short : length longest.keyword ≤ 0 = stuck.longest.longest k longest.keyword longest.there longest.begins in omega (arith, short, longest.bytes)

  stays_stuck : (text : List ℕ) → IsStuck text → {o : Option Next} → IsNextToken lexicon text o → IfSome o (λ n. n.bytes ≡ 0)
  stays_stuck text stuck (next.longer_terminal {i} {m} longest over there) =
      let short : m ≤ 0 = stuck.none i m over.there in absurd (omega (arith, short, over.longer))
  stays_stuck text stuck (next.keyword longest none) = shortest text stuck longest
  stays_stuck text stuck (next.terminal {i} {m} none over there) =
      absurd (none stuck.number stuck.longest.keyword stuck.longest.there stuck.longest.begins)
  stays_stuck text stuck (next.no_token none over) = tt

  module _ (text : List ℕ) where
    -- the tokens up to a place stand in a row, or no other token comes behind them
    abbrev Comes : ℕ → List Token → Type 0
    Comes at tokens = StandBetween 0 at tokens ⊎ ((at < length text) × IsStuck (drop at text))

    comes : {at : ℕ} {tokens : List Token} → IsCutTo lexicon text at tokens → Comes at tokens
    comes cut.start = inl (omega arith)
    comes (cut.then {at} {tokens} {next = n} before inside is) = by (comes before)
      where
        stuck : IsStuck (drop at text) → n.bytes ≡ 0 → Comes (at + n.bytes) (tokens ++ token_at at n ∷ [])
        stuck still none =
            let same : at ≡ at + n.bytes = omega (arith, none) in
            inr (omega (arith, inside, none), subst (λ (k : ℕ). IsStuck (drop k text)) same still)

        first : StandBetween 0 at tokens → (bytes : ℕ) → n.bytes ≡ bytes → Comes (at + n.bytes) (tokens ++ token_at at n ∷ [])
        first row zero none = stuck (gets_stuck (drop at text) is none) none
        first row (suc k) some = inl (pushed 0 at tokens (token_at at n) row (omega arith) (omega (arith, some)))

        by : Comes at tokens → Comes (at + n.bytes) (tokens ++ token_at at n ∷ [])
        by (inl row) = first row n.bytes refl
        by (inr still) = stuck still.1 (stays_stuck (drop at text) still.1 is)

    -- the tokens that are seen, of a text that is cut to its end
    pub seen_in_row : (tokens : List Token) → IsCut lexicon text tokens → StandBetween 0 (length text) (visible tokens)
    seen_in_row tokens is = by (comes is)
      where
        by : Comes (length text) tokens → StandBetween 0 (length text) (visible tokens)
        by (inl row) = seen 0 (length text) tokens row
        by (inr still) = absurd (omega (arith, still.0))
