-- What stands in the line of a place before the place.
use Rattle.std.proofs.Common.{◌≡◌, ◌≢◌, ℕ, ◌+◌, ◌-◌, ◌<◌, ◌≤◌, ◌⊎◌, inl, inr, ⊎_elim, true, List, [], ◌∷◌, ◌++◌, length, sum_by, take, drop, get_or, All, Option, Some, None, MatchOption, unwrap_or, Bor, refl, sym, ap, ◌∙◌, subst, subst₂, append_assoc, append-nil, arith, length-append, length-drop, length-take-le, take-append-drop, encode_utf8, encode_utf8_all, chars, IsUtf8, IsCharBoundary}
use Rattle.std.specs.Char.{IsScalar}
use Rattle.std.specs.Str.{all_scalars}
use Rattle.std.proofs.lemmas.Bool.{and_parts}
use Rattle.std.proofs.lemmas.List.{drop_at, drop-drop, drop-append-le, take_at, take-append-le, get_or_at, nil_from_length, same_from_push, length_push}
use Rattle.std.proofs.lemmas.List.Elements.{All-nil, All-cons, All-take, All-get_or}
use Rattle.std.proofs.lemmas.List.Sums.{sum_by-cons}
use Rattle.std.proofs.lemmas.Str.{IsUtf8-drop, IsCharBoundary-from_drop, IsCharBoundary-from_rest, IsCharBoundary-before_ascii, IsCharBoundary-past_char, inside_one, length-encode, len_utf8_ascii, len_utf8_bounds, encodes-chars, scalars-chars}
use Rattle.lw_text.specs.Lines.{IsNoBreak, Line, IsEnding, line_feed, both, carriage_return, AreLines, last, next, joined_lines, line_bytes, lines_bytes}
use Rattle.lw_text.specs.Position.{AreCharsWithin, IsInLine, IsLineOf, IsPositionIn, units_of, utf8_len}
use Rattle.lw_text.specs.declared.units.Encoding.{Encoding}
use Rattle.lw_text.proofs.Lines.{AreLines-joined, not_none}

-- ---- a line among the lines of a text
-- these bytes begin with the line, and go on with the lines after it
pub record BeginsWith (bytes : List ℕ) (line : Line) (after : List Line) : Type 0 where
  pub bare : All IsNoBreak line.content
  pub parts : bytes ≡ line.content ++ (line.ending ++ joined_lines after)
  pub ends : ((line.ending ≡ []) × (after ≡ [])) ⊎ (IsEnding (joined_lines after) line.ending × (after ≢ []))

some_lines : {text : List ℕ} {lines : List Line} → AreLines text lines → lines ≢ []
some_lines (last _) e = cc
some_lines (next _ _ _) e = cc

pub line_in : (before : List Line) {text : List ℕ} {lines : List Line} → AreLines text lines → (line : Line) (after : List Line) → lines ≡ before ++ line ∷ after → BeginsWith (drop (lines_bytes before) text) line after
line_in [] (last {content} bare) line after e =
    let first : record { content = content; ending = [] } ≡ line = cc in
    let rest : [] ≡ after = cc in
    subst₂ (λ l ls. BeginsWith content l ls) first rest (record { bare = bare; parts = sym (append-nil content); ends = inl (refl, refl) })
line_in [] (next {content} {ending} {rest} {lines} bare ends more) line after e =
    let first : record { content = content; ending = ending } ≡ line = cc in
    let others : lines ≡ after = cc in
    let whole : content ++ ending ++ rest ≡ content ++ (ending ++ joined_lines lines) = append_assoc content ending rest ∙ ap (λ bytes. content ++ (ending ++ bytes)) (AreLines-joined more) in
    subst₂ (λ l ls. BeginsWith (content ++ ending ++ rest) l ls) first others
    (record { bare = bare; parts = whole; ends = inr (subst (λ bytes. IsEnding bytes ending) (AreLines-joined more) ends, some_lines more) })
line_in (first ∷ before) (last _) line after e = let over : [] ≡ before ++ line ∷ after = cc in absurd (not_none before line after over)
line_in (first ∷ before) (next {content} {ending} {rest} {lines} bare ends more) line after e =
    let same : record { content = content; ending = ending } ≡ first = cc in
    let others : lines ≡ before ++ line ∷ after = cc in
    let sizes : length content + length ending ≡ line_bytes first = ap line_bytes same in
    let past : lines_bytes (first ∷ before) ≡ length (content ++ ending) + lines_bytes before = omega (arith, sizes, sum_by-cons line_bytes first before, length-append content ending) in
    let left : drop (lines_bytes (first ∷ before)) (content ++ ending ++ rest) ≡ drop (lines_bytes before) rest =
    ap (λ n. drop n (content ++ ending ++ rest)) past ∙ sym (drop-drop (lines_bytes before) (length (content ++ ending)) (content ++ ending ++ rest))
    ∙ ap (λ bytes. drop (lines_bytes before) bytes) (drop_at (content ++ ending) rest (length (content ++ ending)) refl) in
    subst (λ bytes. BeginsWith bytes line after) (sym left) (line_in before more line after others)

-- ---- the character boundary at or before a place
record IsFloor (bytes : List ℕ) (into place : ℕ) : Type 0 where
  bound : place ≤ into
  boundary : IsCharBoundary bytes place
  nearest : (j : ℕ) → place < j → j ≤ into → ¬ (IsCharBoundary bytes j)

-- a boundary is not before the start of the line
pub start_before_floor : (text : List ℕ) (start offset place : ℕ) → IsCharBoundary text start → start ≤ offset → ((j : ℕ) → place < j → j ≤ offset → ¬ (IsCharBoundary text j)) → start ≤ place
start_before_floor text start offset place starts within nearest =
    let split : (start ≤ place) ⊎ (place < start) = grind arith in
    ⊎_elim (λ le. le) (λ lt. absurd (nearest start lt within starts)) split

IsFloor-drop : (text : List ℕ) (start offset place : ℕ) → IsUtf8 text → IsCharBoundary text start → start ≤ offset → IsFloor text offset place → IsFloor (drop start text) (offset - start) (place - start)
IsFloor-drop text start offset place utf8 starts within floor =
    let after : start ≤ place = start_before_floor text start offset place starts within floor.nearest in
    let there : start + (place - start) ≡ place = omega arith in
    let rest : drop (place - start) (drop start text) ≡ drop place text = drop-drop (place - start) start text ∙ ap (λ n. drop n text) there in
    record {
      bound = omega arith;
      boundary = IsCharBoundary-from_drop (drop start text) (place - start) (omega (arith, length-drop start text, floor.boundary.0)) (subst IsUtf8 (sym rest) (IsUtf8-drop text place utf8 floor.boundary));
      nearest = λ j past within at. floor.nearest (start + j) (omega arith) (omega arith) (IsCharBoundary-from_rest text start j starts.0 at);
    }

-- ---- the characters before a place
pub length-encodes : (cs : List ℕ) → length (encode_utf8_all cs) ≡ sum_by utf8_len cs
length-encodes [] = refl
length-encodes (c ∷ cs) = omega (arith, length-append (encode_utf8 c) (encode_utf8_all cs), length-encodes cs, sum_by-cons utf8_len c cs)

pub All-IsScalar : (cs : List ℕ) → all_scalars cs ≡ true → All IsScalar cs
All-IsScalar [] e = All-nil IsScalar
All-IsScalar (c ∷ cs) e = let parts = and_parts _ _ e in All-cons IsScalar c cs parts.0 (All-IsScalar cs parts.1)

-- the bytes are over, or go on with an ASCII character
abbrev IsLow : List ℕ → Type 0
IsLow [] = Unit {0}
IsLow (b ∷ bs) = b < 128

module _ (content tail : List ℕ) (into place : ℕ) (utf8 : IsUtf8 (content ++ tail)) (floor : IsFloor (content ++ tail) into place) (within : into ≤ length content) (low : IsLow tail) where
  left : drop place (content ++ tail) ≡ drop place content ++ tail
  left = drop-append-le place content tail (omega (arith, floor.bound))

  -- a character that begins in the line ends in it
  fits : (tail : List ℕ) → IsLow tail → (c : ℕ) (cs rest : List ℕ) → encode_utf8 c ++ encode_utf8_all cs ≡ rest ++ tail → 0 < length rest → length (encode_utf8 c) ≤ length rest
  fits [] low c cs rest e some =
      let sizes : length (encode_utf8 c ++ encode_utf8_all cs) ≡ length (rest ++ []) = ap length e in
      omega (arith, length-append (encode_utf8 c) (encode_utf8_all cs), length-append rest [])
  fits (b ∷ bs) low c cs rest e some =
      let split : (length (encode_utf8 c) ≤ length rest) ⊎ (length rest < length (encode_utf8 c)) = grind arith in
      let at : get_or (rest ++ b ∷ bs) (length rest) 0 ≡ b = get_or_at rest b bs 0 (length rest) refl in
      ⊎_elim (λ le. le)
      (λ lt. let is = inside_one c (encode_utf8_all cs) (rest ++ b ∷ bs) (length rest) (sym e) lt (omega (arith, at)) in
      let size = length-encode c in
      let one = len_utf8_ascii c (omega (arith, is, at)) in
      omega arith)
      split

  next_char : (cs : List ℕ) → all_scalars cs ≡ true → encode_utf8_all cs ≡ drop place content ++ tail →
      (drop place content ≡ []) ⊎ ((c : ℕ) × IsScalar c × (more : List ℕ) × (drop place content ≡ encode_utf8 c ++ more) × (into < place + length (encode_utf8 c)))
  next_char [] scalars e =
      let sizes : 0 ≡ length (drop place content ++ tail) = ap length e in
      inl (nil_from_length (drop place content) (omega (arith, length-append (drop place content) tail)))
  next_char (c ∷ cs) scalars e =
      let rest = drop place content in
      let n = length (encode_utf8 c) in
      let split : (length rest ≡ 0) ⊎ (0 < length rest) = grind arith in
      ⊎_elim (λ none. inl (nil_from_length rest none))
      (λ some.
      let room : n ≤ length rest = fits tail low c cs rest e some in
      let first : take n rest ≡ encode_utf8 c = sym (take-append-le n rest tail room) ∙ ap (take n) (sym e) ∙ take_at (encode_utf8 c) (encode_utf8_all cs) n refl in
      let cut : (into < place + n) ⊎ (place + n ≤ into) = grind arith in
      let behind : into < place + n = ⊎_elim (λ lt. lt)
      (λ le. let size = length-encode c in let bytes = len_utf8_bounds c in
      let at = IsCharBoundary-past_char (content ++ tail) (encode_utf8_all cs) place c floor.boundary.0 (IsUtf8-drop (content ++ tail) place utf8 floor.boundary) (left ∙ sym e) in
      absurd (floor.nearest _ (omega arith) (omega arith) at))
      cut in
      inr (c, (and_parts _ _ scalars).0, drop n rest, sym (take-append-drop n rest) ∙ ap (λ bytes. bytes ++ drop n rest) first, behind))
      split

  before_place : (held : List ℕ) → IsUtf8 held → held ≡ take place content → AreCharsWithin utf8_len content into (chars held)
  before_place held text is =
      let spelled : encode_utf8_all (chars held) ≡ take place content = encodes-chars held text ∙ is in
      let size : sum_by utf8_len (chars held) ≡ place = sym (length-encodes (chars held)) ∙ ap length spelled ∙ length-take-le place content (omega (arith, floor.bound)) in
      let rest = IsUtf8-drop (content ++ tail) place utf8 floor.boundary in
      record {
        scalars = All-IsScalar (chars held) (scalars-chars held text);
        rest = drop place content;
        parts = sym (take-append-drop place content) ∙ ap (λ bytes. bytes ++ drop place content) (sym spelled);
        within = omega (arith, floor.bound);
        whole = subst (λ n. (drop place content ≡ []) ⊎ ((c : ℕ) × IsScalar c × (more : List ℕ) × (drop place content ≡ encode_utf8 c ++ more) × (into < n + utf8_len c))) (sym size) (next_char rest.0 rest.1.0 (rest.1.1 ∙ left));
      }

-- all of what stands in the line, where the place is behind it
all_before : (content : List ℕ) (into : ℕ) (held : List ℕ) → IsUtf8 held → held ≡ content → length content ≤ into → AreCharsWithin utf8_len content into (chars held)
all_before content into held utf8 is behind =
    let spelled : encode_utf8_all (chars held) ≡ content = encodes-chars held utf8 ∙ is in
    let size : sum_by utf8_len (chars held) ≡ length content = sym (length-encodes (chars held)) ∙ ap length spelled in
    record {
      scalars = All-IsScalar (chars held) (scalars-chars held utf8);
      rest = [];
      parts = sym (append-nil (encode_utf8_all (chars held)) ∙ spelled);
      within = omega arith;
      whole = inl refl;
    }

-- held is the piece without the `\r` at its end
abbrev pub IsStripped : List ℕ → List ℕ → Type 0
IsStripped piece held = (piece ≡ held ++ 13 ∷ []) ⊎ ((held ≡ piece) × ((front : List ℕ) → piece ≢ front ++ 13 ∷ []))

pub stripped : (piece : List ℕ) (found : Option (Bor (List ℕ))) (whole : Bor (List ℕ)) → whole.now ≡ piece → MatchOption found ((front : List ℕ) → piece ≢ front ++ 13 ∷ []) (λ x. piece ≡ x.now ++ 13 ∷ []) → IsStripped piece (unwrap_or found whole).now
stripped piece None whole e h = inr (e, h)
stripped piece (Some x) whole e h = inl h

-- what stands in a line does not end with a `\r`
no_return_last : (bytes front : List ℕ) → All IsNoBreak bytes → bytes ≢ front ++ 13 ∷ []
no_return_last bytes front bare e =
    let last = All-get_or IsNoBreak bytes (length front) 0 (omega (arith, ap length e, length_push front 13)) bare in
    last.0 (ap (λ bs. get_or bs (length front) 0) e ∙ get_or_at front 13 [] 0 (length front) refl)

low_ending : {rest ending : List ℕ} (bytes : List ℕ) → IsEnding rest ending → IsLow (ending ++ bytes)
low_ending bytes line_feed = omega arith
low_ending bytes both = omega arith
low_ending bytes (carriage_return _) = omega arith

-- only `\r\n` has a place inside
pub inside_ending : {rest ending : List ℕ} (size into : ℕ) → IsEnding rest ending → size < into → into < size + length ending → (ending ≡ 13 ∷ 10 ∷ []) × (into ≡ size + 1)
inside_ending size into line_feed behind before = absurd (omega arith)
inside_ending size into both behind before = (refl, omega arith)
inside_ending size into (carriage_return _) behind before = absurd (omega arith)

module _ (bytes : List ℕ) (line : Line) (after : List Line) (into place : ℕ) (held : List ℕ) (begins : BeginsWith bytes line after) (utf8 : IsUtf8 bytes) (text : IsUtf8 held) (floor : IsFloor bytes into place) (strip : IsStripped (take place bytes) held) where
  in_content : into ≤ length line.content → AreCharsWithin utf8_len line.content into (chars held)
  in_content within =
      let tail = line.ending ++ joined_lines after in
      let low : IsLow tail = ⊎_elim (λ over. subst₂ (λ ending lines. IsLow (ending ++ joined_lines lines)) (sym over.0) (sym over.1) tt) (λ ends. low_ending (joined_lines after) ends.0) begins.ends in
      let cut : take place bytes ≡ take place line.content = ap (take place) begins.parts ∙ take-append-le place line.content tail (omega (arith, floor.bound)) in
      let is : held ≡ take place line.content = ⊎_elim
      (λ return. absurd (no_return_last (take place line.content) held (All-take IsNoBreak place line.content begins.bare) (sym cut ∙ return)))
      (λ same. same.0 ∙ cut)
      strip in
      before_place line.content tail into place (subst IsUtf8 begins.parts utf8) (subst (λ bs. IsFloor bs into place) begins.parts floor) within low held text is

  in_ending : line.ending ≡ 13 ∷ 10 ∷ [] → into ≡ length line.content + 1 → AreCharsWithin utf8_len line.content into (chars held)
  in_ending two at =
      let front = line.content ++ 13 ∷ [] in
      let size : length front ≡ into = length_push line.content 13 ∙ sym at in
      let regroup : line.content ++ ((13 ∷ 10 ∷ []) ++ joined_lines after) ≡ front ++ 10 ∷ joined_lines after = sym (append_assoc line.content (13 ∷ []) (10 ∷ joined_lines after)) in
      let parts : bytes ≡ front ++ 10 ∷ joined_lines after = begins.parts ∙ ap (λ ending. line.content ++ (ending ++ joined_lines after)) two ∙ regroup in
      let sizes : length bytes ≡ length front + length (10 ∷ joined_lines after) = ap length parts ∙ length-append front (10 ∷ joined_lines after) in
      let feed : get_or bytes into 0 ≡ 10 = ap (λ bs. get_or bs into 0) parts ∙ get_or_at front 10 (joined_lines after) 0 into size in
      let here : IsCharBoundary bytes into = IsCharBoundary-before_ascii bytes into (omega (arith, sizes, size)) (omega (arith, feed)) in
      let split : (place ≡ into) ⊎ (place < into) = let le = floor.bound in grind arith in
      let same : place ≡ into = ⊎_elim (λ e. e) (λ lt. let le : into ≤ into = omega arith in absurd (floor.nearest into lt le here)) split in
      let piece : take place bytes ≡ front = ap (λ n. take n bytes) same ∙ ap (take into) parts ∙ take_at front (10 ∷ joined_lines after) into size in
      let is : held ≡ line.content = ⊎_elim (λ return. (same_from_push held line.content 13 13 (sym return ∙ piece)).0) (λ whole. absurd (whole.1 line.content piece)) strip in
      all_before line.content into held text is (omega (arith, at))

  chars_at : into ≤ length bytes → (into < line_bytes line) ⊎ (after ≡ []) → AreCharsWithin utf8_len line.content into (chars held)
  chars_at within inside =
      let split : (into ≤ length line.content) ⊎ (length line.content < into) = grind arith in
      let sizes : length bytes ≡ length line.content + length (line.ending ++ joined_lines after) = ap length begins.parts ∙ length-append line.content (line.ending ++ joined_lines after) in
      ⊎_elim in_content
      (λ behind. ⊎_elim
      (λ over. let none : length (line.ending ++ joined_lines after) ≡ 0 = subst₂ (λ ending lines. length (ending ++ joined_lines lines) ≡ 0) (sym over.0) (sym over.1) refl in absurd (omega arith))
      (λ ends. ⊎_elim (λ before. let two = inside_ending (length line.content) into ends.0 behind before in in_ending two.0 two.1) (λ over. absurd (ends.1 over)) inside)
      begins.ends)
      split

pub position_at : (enc : Encoding) (text : List ℕ) (offset count start place : ℕ) (held : List ℕ) (units : ℕ) → IsUtf8 text → offset ≤ length text → IsLineOf text offset count start → IsCharBoundary text start → place ≤ offset → IsCharBoundary text place → ((j : ℕ) → place < j → j ≤ offset → ¬ (IsCharBoundary text j)) → IsUtf8 held → IsStripped (take (place - start) (drop start text)) held → units ≡ sum_by (units_of enc) (chars held) → IsPositionIn enc text offset (record { line = count; character = units })
position_at enc text offset count start place held units utf8 within at starts bound boundary nearest piece strip is =
    let floor : IsFloor text offset place = record { bound = bound; boundary = boundary; nearest = nearest } in
    let begins : BeginsWith (drop start text) at.line at.after = subst (λ n. BeginsWith (drop n text) at.line at.after) (sym at.begins) (line_in at.before at.cut at.line at.after refl) in
    let far : offset ≡ lines_bytes at.before + (offset - start) = omega (arith, at.begins, at.inside.0) in
    let inside : (offset - start < line_bytes at.line) ⊎ (at.after ≡ []) = ⊎_elim (λ lt. inl (omega (arith, at.inside.0))) (λ over. inr over) at.inside.1 in
    record {
      before = at.before;
      line = at.line;
      after = at.after;
      into = offset - start;
      chars = chars held;
      cut = at.cut;
      inside = subst (λ n. IsInLine offset n at.line at.after) at.begins at.inside;
      far = far;
      chars_before = chars_at (drop start text) at.line at.after (offset - start) (place - start) held begins (IsUtf8-drop text start utf8 starts) piece (IsFloor-drop text start offset place utf8 starts at.inside.0 floor) strip (omega (arith, length-drop start text)) inside;
      number = at.number;
      character = is;
    }
