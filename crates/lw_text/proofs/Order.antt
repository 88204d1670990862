-- Of two positions the later one does not mean an earlier place.
use Rattle.std.proofs.Common.{◌≡◌, ℕ, ◌+◌, ◌<◌, ◌≤◌, inl, inr, ⊎_elim, List, [], ◌∷◌, ◌++◌, length, sym, ap, ◌∙◌, subst, arith, length-append, encode_utf8_all, IsUtf8}
use Rattle.std.proofs.lemmas.Bool.{cases_eq, cases_lt}
use Rattle.std.proofs.lemmas.List.Sums.{sum_by-cons}
use Rattle.lw_text.specs.Changes.{IsAfter}
use Rattle.lw_text.specs.Lines.{Line, line_bytes, lines_bytes}
use Rattle.lw_text.specs.Offset.{IsOffset, in_line, past_lines, IsOffsetInLine, IsOffsetPastLines}
use Rattle.lw_text.specs.Position.{AreCharsWithin, units_of}
use Rattle.lw_text.specs.declared.place.Pos.{Pos}
use Rattle.lw_text.specs.declared.units.Encoding.{Encoding}
use Rattle.lw_text.proofs.Lines.{AreLines-only}
use Rattle.lw_text.proofs.Offsets.{IsOffset-boundary, same_front}
use Rattle.lw_text.proofs.Positions.{AreCharsWithin-more}

-- a line ends before a later one begins
line_before : (before others : List Line) (line other : Line) (after rest : List Line) → before ++ line ∷ after ≡ others ++ other ∷ rest → length before < length others → lines_bytes before + line_bytes line ≤ lines_bytes others
line_before before [] line other after rest e less = absurd (omega arith)
line_before [] (first ∷ others) line other after rest e less =
    let same : line ≡ first = cc in
    omega (arith, ap line_bytes same, sum_by-cons line_bytes first others)
line_before (head ∷ before) (first ∷ others) line other after rest e less =
    let same : head ≡ first = cc in
    let tails : before ++ line ∷ after ≡ others ++ other ∷ rest = cc in
    omega (arith, line_before before others line other after rest tails (omega arith), ap line_bytes same, sum_by-cons line_bytes head before, sum_by-cons line_bytes first others)

module _ (enc : Encoding) (text : List ℕ) (at later : Pos) (offset end : ℕ) where
  both_in_lines : ¬ (IsAfter at later) → IsOffsetInLine enc text at offset → IsOffsetInLine enc text later end → offset ≤ end
  both_in_lines order p q =
      let cuts = AreLines-only p.cut q.cut in
      let held : length p.line.content ≡ length (encode_utf8_all p.chars) + length p.chars_before.rest = ap length p.chars_before.parts ∙ length-append (encode_utf8_all p.chars) p.chars_before.rest in
      ⊎_elim
      (λ less. omega (arith, p.far, q.far, held, line_before p.before q.before p.line q.line p.after q.after cuts (omega (arith, p.number, q.number, less))))
      (λ reached. ⊎_elim
      (λ same. let lines = same_front later.line p.before q.before p.line q.line p.after q.after (sym same ∙ p.number) q.number cuts in
      let moved = subst (λ line. AreCharsWithin (units_of enc) line.content at.character p.chars) lines.1 p.chars_before in
      let within : at.character ≤ later.character = ⊎_elim (λ beyond. absurd (order (inr (same, beyond)))) (λ le. le) (cases_lt later.character at.character) in
      omega (arith, p.far, q.far, ap lines_bytes lines.0, AreCharsWithin-more (units_of enc) q.line.content at.character later.character p.chars q.chars within moved q.chars_before))
      (λ differ. absurd (order (inl (omega (arith, reached, differ)))))
      (cases_eq at.line later.line))
      (cases_lt at.line later.line)

  not_behind_all : ¬ (IsAfter at later) → IsOffsetPastLines text at offset → ¬ (IsOffsetInLine enc text later end)
  not_behind_all order p q = order (inl (omega (arith, ap length (AreLines-only p.cut q.cut), length-append q.before (q.line ∷ q.after), q.number, p.past)))

pub IsOffset-order : (enc : Encoding) (text : List ℕ) (at later : Pos) (offset end : ℕ) → IsUtf8 text → ¬ (IsAfter at later) → IsOffset enc text at offset → IsOffset enc text later end → offset ≤ end
IsOffset-order enc text at later offset end utf8 order (in_line p) (in_line q) = both_in_lines enc text at later offset end order p q
IsOffset-order enc text at later offset end utf8 order (past_lines p) (in_line q) = absurd (not_behind_all enc text at later offset end order p q)
IsOffset-order enc text at later offset end utf8 order a (past_lines q) = omega (arith, q.far, (IsOffset-boundary enc text at offset utf8 a).0)
