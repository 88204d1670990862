-- What tokens of a text span together is a part of the text.
use Rattle.std.proofs.Common.{ℕ, zero, suc, ◌≤◌, List, [], ◌∷◌, ◌++◌, length, drop, arith}
use Rattle.lw_base.specs.declared.token.Token.{Token}
use Rattle.lw_reading.specs.Brackets.{end_of, span_of_tokens}
use Rattle.lw_reading.specs.Within.{StandInRow, IsInText, none, more}

module _ (text : List ℕ) where
  end_in : {ts : List Token} (t : Token) → IsInText text t.span → StandInRow text t.span.end ts → (t.span.end ≤ end_of t ts) × (end_of t ts ≤ length text)
  end_in t stands none = (omega arith, stands.1)
  end_in t stands (more {t = u} behind next others) =
      let rest = end_in u next others in (omega (arith, behind, next.0, rest.0), rest.1)

  span_in : {from : ℕ} {ts : List Token} → StandInRow text from ts → IsInText text (span_of_tokens ts)
  span_in none = (omega arith, omega arith)
  span_in (more {t} behind stands others) = let rest = end_in t stands others in (omega (arith, stands.0, rest.0), rest.1)

  dropped : {from : ℕ} {ts : List Token} (at : ℕ) → StandInRow text from ts → (start : ℕ) × StandInRow text start (drop at ts)
  dropped {from} zero row = (from, row)
  dropped {from} (suc at) none = (from, none)
  dropped (suc at) (more behind stands others) = dropped at others

  pub front_row : {from : ℕ} (ts : List Token) (t : Token) → StandInRow text from (ts ++ t ∷ []) → StandInRow text from ts
  front_row [] t row = none
  front_row (u ∷ ts) t (more behind stands others) = more behind stands (front_row ts t others)

  -- what the tokens from any of them on span
  pub spans_in : {from : ℕ} {ts : List Token} → StandInRow text from ts → (at : ℕ) → IsInText text (span_of_tokens (drop at ts))
  spans_in row at = span_in (dropped at row).1

  pub head_row : {from : ℕ} {t : Token} {ts : List Token} → StandInRow text from (t ∷ ts) →
      (from ≤ t.span.start) × IsInText text t.span × StandInRow text t.span.end ts
  head_row (more behind stands others) = (behind, stands, others)
