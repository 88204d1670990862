-- The index of a text's lines.
use Rattle.std.proofs.Common.{◌≡◌, ℕ, zero, suc, ◌+◌, ◌<◌, ◌≤◌, ◌⊎◌, inl, inr, ⊎_elim, List, [], ◌∷◌, ◌++◌, length, get_or, drop, refl, sym, ap, ◌∙◌, subst, append_assoc, arith, length-append, IsUtf8, IsCharBoundary}
use Rattle.std.proofs.lemmas.List.{drop_at, get_or_at}
use Rattle.std.proofs.lemmas.List.Sums.{sum_by-cons}
use Rattle.std.proofs.lemmas.Str.{IsCharBoundary-after_ascii, IsCharBoundary-from_rest, IsCharBoundary-start, IsUtf8-drop}
use Rattle.lw_text.specs.Lines.{Line, IsEnding, line_feed, both, carriage_return, AreLines, last, next, line_bytes, lines_bytes}
use Rattle.lw_text.specs.Position.{IsLineOf}
use Rattle.lw_text.specs.Starts.{AreStarts, starts_from}
use Rattle.lw_text.proofs.Lines.{not_none, some_ending}

-- ---- the line of a number
-- the line number n of these lines, of which the first begins at `base`
pub record Numbered (lines : List Line) (n base : ℕ) : Type 0 where
  pub before : List Line
  pub line : Line
  pub after : List Line
  pub parts : lines ≡ before ++ line ∷ after
  pub number : n ≡ length before
  pub begins : get_or (starts_from base lines) n 0 ≡ base + lines_bytes before
  pub ends : (after ≡ []) ⊎ ((n + 1 < length (starts_from base lines)) × (get_or (starts_from base lines) (n + 1) 0 ≡ base + lines_bytes before + line_bytes line))

next_begins : (line : Line) (lines : List Line) (base : ℕ) → (lines ≡ []) ⊎ ((0 + 1 < length (starts_from base (line ∷ lines))) × (get_or (starts_from base (line ∷ lines)) (0 + 1) 0 ≡ base + 0 + line_bytes line))
next_begins line [] base = inl refl
next_begins line (second ∷ lines) base = inr (omega arith, omega arith)

pub numbered : (lines : List Line) (n base : ℕ) → n < length (starts_from base lines) → Numbered lines n base
numbered [] n base within = absurd (omega arith)
numbered (line ∷ lines) zero base within = record { before = []; line = line; after = lines; parts = refl; number = refl; begins = omega arith; ends = next_begins line lines base }
numbered (first ∷ lines) (suc n) base within =
    let found = numbered lines n (base + line_bytes first) (omega arith) in
    let size : lines_bytes (first ∷ found.before) ≡ line_bytes first + lines_bytes found.before = sum_by-cons line_bytes first found.before in
    let one : suc n + 1 ≡ suc (n + 1) = omega arith in
    let shift : get_or (starts_from base (first ∷ lines)) (suc n + 1) 0 ≡ get_or (starts_from (base + line_bytes first) lines) (n + 1) 0 = ap (λ k. get_or (starts_from base (first ∷ lines)) k 0) one in
    record {
      before = first ∷ found.before;
      line = found.line;
      after = found.after;
      parts = ap (λ lines. first ∷ lines) found.parts;
      number = ap suc found.number;
      begins = omega (arith, found.begins, size);
      ends = ⊎_elim (λ over. inl over) (λ more. inr (omega (arith, more.0), omega (arith, shift, more.1, size))) found.ends;
    }

pub length-starts_from : (lines : List Line) (base : ℕ) → length (starts_from base lines) ≡ length lines
length-starts_from [] base = refl
length-starts_from (line ∷ lines) base = ap suc (length-starts_from lines (base + line_bytes line))

-- ---- where a line begins
-- the lines before another have a byte each at least
few_lines : (before : List Line) {text : List ℕ} {lines : List Line} → AreLines text lines → (line : Line) (after : List Line) → lines ≡ before ++ line ∷ after → length before ≤ lines_bytes before
few_lines [] cut line after e = omega arith
few_lines (first ∷ before) (last _) line after e = let over : [] ≡ before ++ line ∷ after = cc in absurd (not_none before line after over)
few_lines (first ∷ before) (next {content} {ending} {rest} {lines} bare ends more) line after e =
    let same : record { content = content; ending = ending } ≡ first = cc in
    let others : lines ≡ before ++ line ∷ after = cc in
    let sizes : length content + length ending ≡ line_bytes first = ap line_bytes same in
    omega (arith, few_lines before more line after others, sizes, some_ending ends, sum_by-cons line_bytes first before)

pub few_before : {text : List ℕ} (before : List Line) (line : Line) (after : List Line) → AreLines text (before ++ line ∷ after) → length before ≤ lines_bytes before
few_before before line after cut = few_lines before cut line after refl

-- the last byte of an ending, after anything
low_last : {rest ending : List ℕ} (content bytes : List ℕ) → IsEnding rest ending → (n : ℕ) × (n + 1 ≡ length (content ++ ending)) × (get_or (content ++ ending ++ bytes) n 0 < 128)
low_last content bytes line_feed = (length content, sym (length-append content (10 ∷ [])), omega (arith, ap (λ bs. get_or bs (length content) 0) (append_assoc content (10 ∷ []) bytes), get_or_at content 10 bytes 0 (length content) refl))
low_last content bytes (carriage_return _) = (length content, sym (length-append content (13 ∷ [])), omega (arith, ap (λ bs. get_or bs (length content) 0) (append_assoc content (13 ∷ []) bytes), get_or_at content 13 bytes 0 (length content) refl))
low_last content bytes both =
    let front = content ++ 13 ∷ [] in
    let size : length front ≡ length content + 1 = length-append content (13 ∷ []) in
    let whole : length (content ++ 13 ∷ 10 ∷ []) ≡ length content + 2 = length-append content (13 ∷ 10 ∷ []) in
    let regroup : content ++ (13 ∷ 10 ∷ []) ++ bytes ≡ front ++ 10 ∷ bytes = append_assoc content (13 ∷ 10 ∷ []) bytes ∙ sym (append_assoc content (13 ∷ []) (10 ∷ bytes)) in
    (length content + 1, omega arith, omega (arith, ap (λ bs. get_or bs (length content + 1) 0) regroup, get_or_at front 10 bytes 0 (length content + 1) size))

begins_whole : (before : List Line) {text : List ℕ} {lines : List Line} → IsUtf8 text → AreLines text lines → (line : Line) (after : List Line) → lines ≡ before ++ line ∷ after → IsCharBoundary text (lines_bytes before)
begins_whole [] {text} utf8 cut line after e = IsCharBoundary-start text utf8
begins_whole (first ∷ before) utf8 (last _) line after e = let over : [] ≡ before ++ line ∷ after = cc in absurd (not_none before line after over)
begins_whole (first ∷ before) utf8 (next {content} {ending} {rest} {lines} bare ends more) line after e =
    let text = content ++ ending ++ rest in
    let n = length (content ++ ending) in
    let same : record { content = content; ending = ending } ≡ first = cc in
    let others : lines ≡ before ++ line ∷ after = cc in
    let sizes : length content + length ending ≡ line_bytes first = ap line_bytes same in
    let low = low_last content rest ends in
    let long : length text ≡ n + length rest = length-append (content ++ ending) rest in
    let here : IsCharBoundary text n = subst (λ k. IsCharBoundary text k) low.1 (IsCharBoundary-after_ascii text low.0 utf8 (omega (arith, low.1)) low.2) in
    let left : drop n text ≡ rest = drop_at (content ++ ending) rest n refl in
    let rest_utf8 : IsUtf8 rest = subst IsUtf8 left (IsUtf8-drop text n utf8 here) in
    let there : IsCharBoundary rest (lines_bytes before) = begins_whole before rest_utf8 more line after others in
    let far : n + lines_bytes before ≡ lines_bytes (first ∷ before) = omega (arith, sizes, length-append content ending, sum_by-cons line_bytes first before) in
    subst (λ k. IsCharBoundary text k) far (IsCharBoundary-from_rest text n (lines_bytes before) (omega arith) (subst (λ bytes. IsCharBoundary bytes (lines_bytes before)) (sym left) there))

-- a line begins with a whole character
pub start_boundary : (text : List ℕ) (before : List Line) (line : Line) (after : List Line) → IsUtf8 text → AreLines text (before ++ line ∷ after) → IsCharBoundary text (lines_bytes before)
start_boundary text before line after utf8 cut = begins_whole before utf8 cut line after refl

-- ---- the line of a place
-- by two places of the index that follow each other, with the place between them
pub line_between : (text starts : List ℕ) (offset n end : ℕ) → AreStarts text starts → end ≡ n + 1 → end ≤ length starts → get_or starts n 0 ≤ offset →
    (end ≡ length starts) ⊎ (offset < get_or starts end 0) → IsLineOf text offset n (get_or starts n 0) × (n ≤ offset)
line_between text starts offset n end are near within from reaches =
    let places = are.places in
    let found = numbered are.lines n 0 (omega (arith, ap length places)) in
    let to : (n + 1 ≡ length starts) ⊎ (offset < get_or starts (n + 1) 0) = subst (λ k. (k ≡ length starts) ⊎ (offset < get_or starts k 0)) near reaches in
    let cut : AreLines text (found.before ++ found.line ∷ found.after) = subst (λ lines. AreLines text lines) found.parts are.cut in
    let start : get_or starts n 0 ≡ lines_bytes found.before = ap (λ xs. get_or xs n 0) places ∙ found.begins ∙ omega arith in
    let behind : get_or starts (n + 1) 0 ≡ get_or (starts_from 0 are.lines) (n + 1) 0 = ap (λ xs. get_or xs (n + 1) 0) places in
    let inside : (offset < get_or starts n 0 + line_bytes found.line) ⊎ (found.after ≡ []) =
    ⊎_elim (λ over. inr over)
    (λ more. ⊎_elim (λ end. absurd (omega (arith, more.0, ap length places))) (λ ahead. inl (omega (arith, more.1))) to)
    found.ends in (
      record {
        before = found.before;
        line = found.line;
        after = found.after;
        cut = cut;
        begins = start;
        inside = (from, inside);
        number = found.number;
      },
      omega (arith, few_before found.before found.line found.after cut, found.number),
    )

pub IsLineOf-boundary : (text : List ℕ) (offset count start : ℕ) → IsUtf8 text → IsLineOf text offset count start → IsCharBoundary text start
IsLineOf-boundary text offset count start utf8 at = subst (λ n. IsCharBoundary text n) (sym at.begins) (start_boundary text at.before at.line at.after utf8 at.cut)
