-- The position of a place means that place.
use Rattle.std.proofs.Common.{◌≡◌, ℕ, ◌+◌, ◌<◌, ◌≤◌, inl, inr, ⊎_elim, List, [], ◌∷◌, ◌++◌, length, append_assoc, sum_by, get_or, take, drop, Some, slice_get, refl, sym, ap, ◌∙◌, subst, subst₂, arith, length-append, length-drop, length-take-le, encode_utf8_all, chars, IsUtf8, IsCharBoundary}
use Rattle.std.proofs.lemmas.Bool.{cases_lt}
use Rattle.std.proofs.lemmas.Bool.Decides.{nat_tests}
use Rattle.std.proofs.lemmas.List.{drop-drop, get_or-drop, get_or_append_left, get_or_at}
use Rattle.std.proofs.lemmas.Option.{slice_get-get_or}
use Rattle.std.proofs.lemmas.Str.{IsCharBoundary-from_drop, IsUtf8-drop, IsUtf8-take, encodes-chars}
use Rattle.lw_text.specs.Lines.{lines_bytes, joined_lines}
use Rattle.lw_text.specs.Offset.{IsOffset, in_line}
use Rattle.lw_text.specs.Position.{AreCharsWithin, IsInsideBreak, IsPositionIn, units_of, utf8_len}
use Rattle.lw_text.specs.declared.place.Pos.{Pos}
use Rattle.lw_text.specs.declared.units.Encoding.{Encoding}
use Rattle.lw_text.specs.declared.units.Encoding.TheVariants.{Utf16}
use Rattle.lw_text.proofs.Index.{start_boundary}
use Rattle.lw_text.proofs.Offsets.{content_utf8, StartsLine}
use Rattle.lw_text.proofs.Places.{BeginsWith, inside_ending, length-encodes, line_in}
use Rattle.lw_text.proofs.Positions.{AreCharsWithin-only}
use Rattle.lw_text.proofs.Within.{AreCharsWithin-after, AreCharsWithin-some, length-after}

-- a character takes a unit at least
some_units : (enc : Encoding) (c : ℕ) → 1 ≤ units_of enc c
some_units Utf16 c = grind (arith, nat_tests)

-- the characters before a place at which one begins take all bytes before it
length-before : (bytes : List ℕ) (into : ℕ) (cs : List ℕ) → IsUtf8 bytes → IsCharBoundary bytes into → AreCharsWithin utf8_len bytes into cs → length (encode_utf8_all cs) ≡ into
length-before bytes into cs utf8 at before =
    let front = take into bytes in
    let counted : 0 + sum_by utf8_len (chars front) ≡ into = omega (arith, length-encodes (chars front), ap length (encodes-chars front (IsUtf8-take bytes into utf8 at)), length-take-le into bytes at.0) in
    let none = AreCharsWithin-some utf8_len (drop into bytes) 0 (IsUtf8-drop bytes into utf8 at) in
    let all = AreCharsWithin-after utf8_len bytes into 0 into none.0 utf8 at counted none.1 in
    let same = AreCharsWithin-only utf8_len bytes into cs (chars front ++ none.0) before all in
    omega (arith, ap (λ cs. length (encode_utf8_all cs)) same, length-after utf8_len bytes into 0 into none.0 utf8 at counted none.1, length-encodes none.0, none.1.within)

narrowed : (content tail : List ℕ) (into : ℕ) → into ≤ length content → IsCharBoundary (content ++ tail) into → IsCharBoundary content into
narrowed content tail into within at = (
  within,
  λ before low.
      let same : get_or (content ++ tail) into 0 ≡ get_or content into 0 = get_or_append_left content tail 0 into before in
      let inside : into < length (content ++ tail) = omega (arith, length-append content tail) in
      let far = at.1 inside (omega (arith, same)) in
      omega (arith, same, far),
)

module _ (enc : Encoding) (text : List ℕ) (offset : ℕ) (at : Pos) (utf8 : IsUtf8 text) (boundary : IsCharBoundary text offset) (apart : ¬ (IsInsideBreak text offset)) (p : IsPositionIn enc text offset at) where
  rest_begins : BeginsWith (drop (lines_bytes p.before) text) p.line p.after
  rest_begins = line_in p.before p.cut p.line p.after refl

  tail_size : length text ≡ lines_bytes p.before + length p.line.content + length (p.line.ending ++ joined_lines p.after)
  tail_size =
      let starts = start_boundary text p.before p.line p.after utf8 p.cut in
      omega (arith, starts.0, length-drop (lines_bytes p.before) text, ap length rest_begins.parts, length-append p.line.content (p.line.ending ++ joined_lines p.after))

  -- the byte k of what follows the line's start
  byte_at : (k c : ℕ) → lines_bytes p.before + k < length text → get_or (drop (lines_bytes p.before) text) k 0 ≡ c → slice_get text (lines_bytes p.before + k) ≡ Some c
  byte_at k c within is = slice_get-get_or text (lines_bytes p.before + k) 0 within ∙ ap (λ b. Some b) (sym (get_or-drop (lines_bytes p.before) text k 0) ∙ is)

  inside_pair : p.line.ending ≡ 13 ∷ 10 ∷ [] → p.into ≡ length p.line.content + 1 → IsInsideBreak text offset
  inside_pair two into =
      let content = p.line.content in
      let n = length content in
      let parts : drop (lines_bytes p.before) text ≡ content ++ 13 ∷ 10 ∷ joined_lines p.after = rest_begins.parts ∙ ap (λ ending. content ++ (ending ++ joined_lines p.after)) two in
      let long : length (p.line.ending ++ joined_lines p.after) ≡ 2 + length (joined_lines p.after) = ap (λ ending. length (ending ++ joined_lines p.after)) two ∙ omega arith in
      let regroup : content ++ 13 ∷ 10 ∷ joined_lines p.after ≡ (content ++ 13 ∷ []) ++ 10 ∷ joined_lines p.after = sym (append_assoc content (13 ∷ []) (10 ∷ joined_lines p.after)) in
      let size : length (content ++ 13 ∷ []) ≡ n + 1 = length-append content (13 ∷ []) in
      let first : get_or (drop (lines_bytes p.before) text) n 0 ≡ 13 = ap (λ bytes. get_or bytes n 0) parts ∙ get_or_at content 13 (10 ∷ joined_lines p.after) 0 n refl in
      let second : get_or (drop (lines_bytes p.before) text) (n + 1) 0 ≡ 10 = ap (λ bytes. get_or bytes (n + 1) 0) (parts ∙ regroup) ∙ get_or_at (content ++ 13 ∷ []) 10 (joined_lines p.after) 0 (n + 1) size in
      let far : lines_bytes p.before + (n + 1) ≡ offset = omega (arith, p.far) in
      (lines_bytes p.before + n, omega (arith, p.far), byte_at n 13 (omega (arith, tail_size)) first, subst (λ k. slice_get text k ≡ Some 10) far (byte_at (n + 1) 10 (omega (arith, tail_size)) second))

  in_content : p.into ≤ length p.line.content
  in_content =
      ⊎_elim
      (λ behind. ⊎_elim
      (λ over. let none : length (p.line.ending ++ joined_lines p.after) ≡ 0 = subst₂ (λ ending lines. length (ending ++ joined_lines lines) ≡ 0) (sym over.0) (sym over.1) refl in absurd (omega (arith, boundary.0, p.far, tail_size)))
      (λ ends. ⊎_elim
      (λ before. let two = inside_ending (length p.line.content) p.into ends.0 behind (omega (arith, p.far)) in absurd (apart (inside_pair two.0 two.1)))
      (λ over. absurd (ends.1 over))
      p.inside.1)
      rest_begins.ends)
      (λ within. within)
      (cases_lt (length p.line.content) p.into)

  whole_before : IsCharBoundary p.line.content p.into
  whole_before =
      let rest = drop (lines_bytes p.before) text in
      let left : drop p.into rest ≡ drop offset text = drop-drop p.into (lines_bytes p.before) text ∙ ap (λ n. drop n text) (sym p.far) in
      let here : IsCharBoundary rest p.into = IsCharBoundary-from_drop rest p.into (omega (arith, boundary.0, p.far, length-drop (lines_bytes p.before) text)) (subst IsUtf8 (sym left) (IsUtf8-drop text offset utf8 boundary)) in
      narrowed p.line.content (p.line.ending ++ joined_lines p.after) p.into in_content (subst (λ bytes. IsCharBoundary bytes p.into) rest_begins.parts here)

  pub lead_back : IsOffset enc text at offset
  lead_back =
      let s : StartsLine text at.line (lines_bytes p.before) = record { before = p.before; line = p.line; after = p.after; cut = p.cut; number = p.number; begins = refl } in
      let held = content_utf8 text at.line (lines_bytes p.before) utf8 s in
      let size = length-before p.line.content p.into p.chars held whole_before p.chars_before in
      in_line (record {
        before = p.before;
        line = p.line;
        after = p.after;
        chars = p.chars;
        cut = p.cut;
        number = p.number;
        chars_before = record {
          scalars = p.chars_before.scalars;
          rest = p.chars_before.rest;
          parts = p.chars_before.parts;
          within = omega (arith, p.character);
          whole = ⊎_elim (λ over. inl over) (λ w. inr (w.0, w.1, w.2, w.3, omega (arith, p.character, some_units enc w.0))) p.chars_before.whole;
        };
        far = omega (arith, p.far, size);
      })
