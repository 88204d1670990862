-- The place that a position means.
use Rattle.std.proofs.Common.{◌≡◌, ℕ, ◌+◌, ◌-◌, ◌<◌, ◌≤◌, ⊎_elim, List, [], ◌∷◌, ◌++◌, length, get_or, take, drop, refl, sym, ap, ap₂, ◌∙◌, subst, subst₂, append_assoc, append-nil, arith, length-append, encode_utf8_all, chars, IsUtf8, IsCharBoundary}
use Rattle.std.proofs.lemmas.Bool.{cases_lt}
use Rattle.std.proofs.lemmas.List.{append_cancel_left, get_or_at, get_or_read, take_at}
use Rattle.std.proofs.lemmas.Str.{IsCharBoundary-at_seam, IsCharBoundary-before_ascii, IsCharBoundary-end, IsCharBoundary-from_rest, IsUtf8-drop, IsUtf8-take, encodes-chars, scalars-chars}
use Rattle.lw_text.specs.Lines.{Line, AreLines, lines_bytes, joined_lines}
use Rattle.lw_text.specs.Offset.{IsOffset, in_line, past_lines, IsOffsetInLine, IsOffsetPastLines}
use Rattle.lw_text.specs.Position.{AreCharsWithin, units_of}
use Rattle.lw_text.specs.Starts.{AreStarts, IsBreakOrOver, IsLineEnd}
use Rattle.lw_text.specs.declared.place.Pos.{Pos}
use Rattle.lw_text.specs.declared.units.Encoding.{Encoding}
use Rattle.lw_text.proofs.Index.{length-starts_from, numbered, start_boundary}
use Rattle.lw_text.proofs.Lines.{AreLines-only, IsBreakOrOver-ending, cut_of, same_content}
use Rattle.lw_text.proofs.Places.{BeginsWith, line_in}
use Rattle.lw_text.proofs.Positions.{AreCharsWithin-only}
use Rattle.lw_text.proofs.Within.{AreCharsWithin-some, begins}

-- ---- the line of a number
-- the line number n of the text begins at `start`
pub record StartsLine (text : List ℕ) (n start : ℕ) : Type 0 where
  pub before : List Line
  pub line : Line
  pub after : List Line
  pub cut : AreLines text (before ++ line ∷ after)
  pub number : n ≡ length before
  pub begins : start ≡ lines_bytes before

StartsLine-at : (text starts : List ℕ) (n start : ℕ) → AreStarts text starts → n < length starts → start ≡ get_or starts n start → StartsLine text n start
StartsLine-at text starts n start are within at =
    let places = are.places in
    let found = numbered are.lines n 0 (omega (arith, ap length places)) in
    record {
      before = found.before;
      line = found.line;
      after = found.after;
      cut = subst (λ lines. AreLines text lines) found.parts are.cut;
      number = found.number;
      begins = get_or_read starts n start within at 0 ∙ ap (λ xs. get_or xs n 0) places ∙ found.begins ∙ omega arith;
    }

StartsLine-boundary : (text : List ℕ) (n start : ℕ) → IsUtf8 text → StartsLine text n start → IsCharBoundary text start
StartsLine-boundary text n start utf8 s = subst (λ k. IsCharBoundary text k) (sym s.begins) (start_boundary text s.before s.line s.after utf8 s.cut)

-- by the index: the line begins with a whole character
pub line_of_index : (text starts : List ℕ) (n start : ℕ) → IsUtf8 text → AreStarts text starts → n < length starts → start ≡ get_or starts n start → StartsLine text n start × IsCharBoundary text start
line_of_index text starts n start utf8 are within at =
    let line = StartsLine-at text starts n start are within at in
    (line, StartsLine-boundary text n start utf8 line)

begins_with : (text : List ℕ) (n start : ℕ) → (s : StartsLine text n start) → BeginsWith (drop start text) s.line s.after
begins_with text n start s = subst (λ k. BeginsWith (drop k text) s.line s.after) (sym s.begins) (line_in s.before s.cut s.line s.after refl)

-- a line's ending begins with a break, if there is one
over_behind : {bytes : List ℕ} {line : Line} {after : List Line} → BeginsWith bytes line after → IsBreakOrOver (line.ending ++ joined_lines after)
over_behind {after} b = ⊎_elim (λ over. subst₂ (λ ending lines. IsBreakOrOver (ending ++ joined_lines lines)) (sym over.0) (sym over.1) tt) (λ ends. IsBreakOrOver-ending (joined_lines after) ends.0) b.ends

-- what stands before a break ends with a whole character
seam : (front tail : List ℕ) → IsBreakOrOver tail → IsCharBoundary (front ++ tail) (length front)
seam front [] over = subst (λ bytes. IsCharBoundary bytes (length front)) (sym (append-nil front)) (IsCharBoundary-end front)
seam front (b ∷ bs) over =
    let at : get_or (front ++ b ∷ bs) (length front) 0 ≡ b = get_or_at front b bs 0 (length front) refl in
    let low : get_or (front ++ b ∷ bs) (length front) 0 < 128 = ⊎_elim (λ return. omega (arith, at, return)) (λ feed. omega (arith, at, feed)) over in
    IsCharBoundary-before_ascii (front ++ b ∷ bs) (length front) (omega (arith, length-append front (b ∷ bs))) low

pub end_boundary : (text : List ℕ) (start end : ℕ) → start ≤ length text → IsLineEnd text start end → IsCharBoundary text end
end_boundary text start end within e =
    let here : IsCharBoundary (drop start text) (length e.content) = subst (λ bytes. IsCharBoundary bytes (length e.content)) (sym e.parts) (seam e.content (drop end text) e.over) in
    subst (λ k. IsCharBoundary text k) (sym e.far) (IsCharBoundary-from_rest text start (length e.content) within here)

content_is : (text : List ℕ) (n start end : ℕ) → (s : StartsLine text n start) → (e : IsLineEnd text start end) → e.content ≡ s.line.content
content_is text n start end s e =
    let b = begins_with text n start s in
    (same_content e.content s.line.content (drop end text) (s.line.ending ++ joined_lines s.after) e.bare b.bare e.over (over_behind b) (sym e.parts ∙ b.parts)).0

pub IsOffset-in_line : (enc : Encoding) (text : List ℕ) (at : Pos) (offset start end : ℕ) (cs : List ℕ) → StartsLine text at.line start → IsLineEnd text start end →
    AreCharsWithin (units_of enc) (take (end - start) (drop start text)) at.character cs → offset ≡ start + length (encode_utf8_all cs) → IsOffset enc text at offset
IsOffset-in_line enc text at offset start end cs s e within far =
    let size : length e.content ≡ end - start = omega (arith, e.far) in
    let piece : take (end - start) (drop start text) ≡ s.line.content = ap (take (end - start)) e.parts ∙ take_at e.content (drop end text) (end - start) size ∙ content_is text at.line start end s e in
    in_line (record {
      before = s.before;
      line = s.line;
      after = s.after;
      chars = cs;
      cut = s.cut;
      number = s.number;
      chars_before = subst (λ bytes. AreCharsWithin (units_of enc) bytes at.character cs) piece within;
      far = omega (arith, far, s.begins);
    })

pub IsOffset-past : (enc : Encoding) (text starts : List ℕ) (at : Pos) → AreStarts text starts → length starts ≤ at.line → IsOffset enc text at (length text)
IsOffset-past enc text starts at are past = past_lines (record { lines = are.lines; cut = are.cut; past = omega (arith, ap length are.places, length-starts_from are.lines 0); far = refl })

-- ---- where it is
pub IsOffset-boundary : (enc : Encoding) (text : List ℕ) (at : Pos) (offset : ℕ) → IsUtf8 text → IsOffset enc text at offset → (offset ≤ length text) × IsCharBoundary text offset
IsOffset-boundary enc text at offset utf8 (past_lines p) = (omega (arith, p.far), subst (λ k. IsCharBoundary text k) (sym p.far) (IsCharBoundary-end text))
IsOffset-boundary enc text at offset utf8 (in_line p) =
    let start = lines_bytes p.before in
    let starts = start_boundary text p.before p.line p.after utf8 p.cut in
    let rest = drop start text in
    let cs = p.chars in
    let tail = p.chars_before.rest ++ (p.line.ending ++ joined_lines p.after) in
    let parts : rest ≡ encode_utf8_all cs ++ tail = (line_in p.before p.cut p.line p.after refl).parts ∙ ap (λ bytes. bytes ++ (p.line.ending ++ joined_lines p.after)) p.chars_before.parts
    ∙ append_assoc (encode_utf8_all cs) p.chars_before.rest (p.line.ending ++ joined_lines p.after) in
    let rest_utf8 = IsUtf8-drop text start utf8 starts in
    let found = begins cs (chars rest) tail (scalars-chars rest rest_utf8) (encodes-chars rest rest_utf8 ∙ parts) in
    let here : IsCharBoundary rest (length (encode_utf8_all cs)) = IsCharBoundary-at_seam rest (encode_utf8_all cs) tail parts (found.more, (found.more_scalars, found.left)) in
    let there : IsCharBoundary text offset = subst (λ k. IsCharBoundary text k) (sym p.far) (IsCharBoundary-from_rest text start (length (encode_utf8_all cs)) starts.0 here) in
    (there.0, there)

-- ---- at most one
pub same_front : (n : ℕ) (xs ys : List Line) (x y : Line) (r s : List Line) → n ≡ length xs → n ≡ length ys → xs ++ x ∷ r ≡ ys ++ y ∷ s → (xs ≡ ys) × (x ≡ y)
same_front n xs ys x y r s p q e =
    let fronts : xs ≡ ys = sym (take_at xs (x ∷ r) n (sym p)) ∙ ap (take n) e ∙ take_at ys (y ∷ s) n (sym q) in
    let rest = append_cancel_left ys (x ∷ r) (y ∷ s) (ap (λ zs. zs ++ x ∷ r) (sym fronts) ∙ e) in
    (fronts, cc)

not_past : (enc : Encoding) (text : List ℕ) (at : Pos) (a b : ℕ) → IsOffsetInLine enc text at a → ¬ (IsOffsetPastLines text at b)
not_past enc text at a b p q =
    omega (arith, ap length (AreLines-only p.cut q.cut), length-append p.before (p.line ∷ p.after), p.number, q.past)

pub IsOffset-only : (enc : Encoding) (text : List ℕ) (at : Pos) (a b : ℕ) → IsOffset enc text at a → IsOffset enc text at b → a ≡ b
IsOffset-only enc text at a b (past_lines p) (past_lines q) = p.far ∙ sym q.far
IsOffset-only enc text at a b (past_lines p) (in_line q) = absurd (not_past enc text at b a q p)
IsOffset-only enc text at a b (in_line p) (past_lines q) = absurd (not_past enc text at a b p q)
IsOffset-only enc text at a b (in_line p) (in_line q) =
    let same = same_front at.line p.before q.before p.line q.line p.after q.after p.number q.number (AreLines-only p.cut q.cut) in
    let moved = subst (λ line. AreCharsWithin (units_of enc) line.content at.character p.chars) same.1 p.chars_before in
    let cs = AreCharsWithin-only (units_of enc) q.line.content at.character p.chars q.chars moved q.chars_before in
    p.far ∙ ap₂ (λ before chars. lines_bytes before + length (encode_utf8_all chars)) same.0 cs ∙ sym q.far

-- ---- there is one
pub content_utf8 : (text : List ℕ) (n start : ℕ) → IsUtf8 text → (s : StartsLine text n start) → IsUtf8 s.line.content
content_utf8 text n start utf8 s =
    let b = begins_with text n start s in
    let tail = s.line.ending ++ joined_lines s.after in
    let starts = StartsLine-boundary text n start utf8 s in
    let rest = subst IsUtf8 b.parts (IsUtf8-drop text start utf8 starts) in
    subst IsUtf8 (take_at s.line.content tail (length s.line.content) refl) (IsUtf8-take (s.line.content ++ tail) (length s.line.content) rest (seam s.line.content tail (over_behind b)))

some_offset : (enc : Encoding) (text : List ℕ) (at : Pos) → IsUtf8 text → (offset : ℕ) × IsOffset enc text at offset
some_offset enc text at utf8 =
    let cut = cut_of text in
    let lines = cut.0 in
    ⊎_elim
    (λ there. let found = numbered lines at.line 0 (omega (arith, length-starts_from lines 0)) in
    let s : StartsLine text at.line (lines_bytes found.before) = record { before = found.before; line = found.line; after = found.after; cut = subst (λ ls. AreLines text ls) found.parts cut.1; number = found.number; begins = refl } in
    let within = AreCharsWithin-some (units_of enc) found.line.content at.character (content_utf8 text at.line (lines_bytes found.before) utf8 s) in
    let result : (offset : ℕ) × IsOffset enc text at offset = (
      lines_bytes found.before + length (encode_utf8_all within.0),
      in_line (record {
        before = s.before;
        line = s.line;
        after = s.after;
        chars = within.0;
        cut = s.cut;
        number = s.number;
        chars_before = within.1;
        far = refl;
      }),
    ) in result)
    (λ past. (length text, past_lines (record { lines = lines; cut = cut.1; past = past; far = refl })))
    (cases_lt at.line (length lines))

pub IsOffset-some : (enc : Encoding) (text : List ℕ) (at : Pos) → IsUtf8 text → (offset : ℕ) × (offset ≤ length text) × IsCharBoundary text offset × IsOffset enc text at offset
IsOffset-some enc text at utf8 =
    let found = some_offset enc text at utf8 in
    let place = IsOffset-boundary enc text at found.0 utf8 found.1 in
    (found.0, place.0, place.1, found.1)
