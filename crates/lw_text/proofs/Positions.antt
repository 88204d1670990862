-- A place has one position.
use Rattle.std.proofs.Common.{◌≡◌, ℕ, ◌+◌, ◌<◌, ◌≤◌, ◌⊎◌, inl, inr, ⊎_elim, List, [], ◌∷◌, ◌++◌, length, sum_by, refl, sym, ap, ap₂, ◌∙◌, subst, append_assoc, arith, length-append, encode_utf8, encode_utf8_all}
use Rattle.std.specs.Char.{IsScalar}
use Rattle.std.proofs.lemmas.List.{append_cancel_left}
use Rattle.std.proofs.lemmas.List.Sums.{sum_by-cons}
use Rattle.std.proofs.lemmas.Str.{encode_same, length-encode, len_utf8_bounds}
use Rattle.lw_text.specs.Lines.{Line, line_bytes, lines_bytes}
use Rattle.lw_text.specs.Position.{AreCharsWithin, IsInLine, IsPositionIn, units_of, utf8_len}
use Rattle.lw_text.specs.declared.place.Pos.{Pos}
use Rattle.lw_text.specs.declared.units.Encoding.{Encoding}
use Rattle.lw_text.proofs.Lines.{AreLines-only, not_none}

-- ---- the line
-- a place in the first of some lines is in no later one
not_later : (first : Line) (before : List Line) (line other : Line) (after others : List Line) (offset start : ℕ) →
    line ∷ after ≡ (first ∷ before) ++ other ∷ others → IsInLine offset (start + 0) line after → ¬ (start + lines_bytes (first ∷ before) ≤ offset)
not_later first before line other after others offset start e inside beyond =
    let same : line ≡ first = cc in
    let more : after ≡ before ++ other ∷ others = cc in
    let sizes : line_bytes line ≡ line_bytes first = ap line_bytes same in
    let size : lines_bytes (first ∷ before) ≡ line_bytes first + lines_bytes before = sum_by-cons line_bytes first before in
    ⊎_elim (λ short. let below : offset < start + 0 + line_bytes line = short in omega arith) (λ over. not_none before other others (sym over ∙ more)) inside.1

same_before : (before befores : List Line) (line other : Line) (after others : List Line) (offset start : ℕ) →
    before ++ line ∷ after ≡ befores ++ other ∷ others → IsInLine offset (start + lines_bytes before) line after →
    IsInLine offset (start + lines_bytes befores) other others → before ≡ befores
same_before [] [] line other after others offset start e a b = refl
same_before [] (first ∷ befores) line other after others offset start e a b = absurd (not_later first befores line other after others offset start e a b.0)
same_before (first ∷ before) [] line other after others offset start e a b = absurd (not_later first before other line others after offset start (sym e) b a.0)
same_before (first ∷ before) (second ∷ befores) line other after others offset start e a b =
    let same : first ≡ second = cc in
    let rest : before ++ line ∷ after ≡ befores ++ other ∷ others = cc in
    let sizes : line_bytes first ≡ line_bytes second = ap line_bytes same in
    let p : start + lines_bytes (first ∷ before) ≡ start + line_bytes first + lines_bytes before = omega (arith, sum_by-cons line_bytes first before) in
    let q : start + lines_bytes (second ∷ befores) ≡ start + line_bytes first + lines_bytes befores = omega (arith, sizes, sum_by-cons line_bytes second befores) in
    ap₂ (λ x xs. x ∷ xs) same (same_before before befores line other after others offset (start + line_bytes first) rest (subst (λ n. IsInLine offset n line after) p a) (subst (λ n. IsInLine offset n other others) q b))

-- ---- the characters
-- the next character, if there is one, ends behind the unit n
abbrev EndsBehind : (ℕ → ℕ) → ℕ → ℕ → List ℕ → Type 0
EndsBehind size n base rest = (rest ≡ []) ⊎ ((c : ℕ) × IsScalar c × (more : List ℕ) × (rest ≡ encode_utf8 c ++ more) × (n < base + size c))

some_bytes : (c : ℕ) → 1 ≤ length (encode_utf8 c)
some_bytes c = let bounds = len_utf8_bounds c in let is = length-encode c in omega arith

module _ (size : ℕ → ℕ) where
  -- a character that is whole before n does not end behind n
  not_behind : (d : ℕ) (ds r s : List ℕ) (n base : ℕ) → r ≡ (encode_utf8 d ++ encode_utf8_all ds) ++ s → base + (size d + sum_by size ds) ≤ n → ¬ (EndsBehind size n (base + 0) r)
  not_behind d ds r s n base e within (inl none) =
      let sizes : 0 ≡ length ((encode_utf8 d ++ encode_utf8_all ds) ++ s) = ap length (sym none ∙ e) in
      omega (arith, some_bytes d, length-append (encode_utf8 d ++ encode_utf8_all ds) s, length-append (encode_utf8 d) (encode_utf8_all ds))
  not_behind d ds r s n base e within (inr (c, scalar, more, is, behind)) =
      let same = encode_same c d more (encode_utf8_all ds ++ s) (sym is ∙ e ∙ append_assoc (encode_utf8 d) (encode_utf8_all ds) s) in
      let sizes : size c ≡ size d = ap size same.0 in
      omega arith

  same_chars : (cs ds r s : List ℕ) (n base : ℕ) → encode_utf8_all cs ++ r ≡ encode_utf8_all ds ++ s → base + sum_by size cs ≤ n → base + sum_by size ds ≤ n →
      EndsBehind size n (base + sum_by size cs) r → EndsBehind size n (base + sum_by size ds) s → cs ≡ ds
  same_chars [] [] r s n base e a b p q = refl
  same_chars [] (d ∷ ds) r s n base e a b p q = absurd (not_behind d ds r s n base e (subst (λ k. base + k ≤ n) (sum_by-cons size d ds) b) p)
  same_chars (c ∷ cs) [] r s n base e a b p q = absurd (not_behind c cs s r n base (sym e) (subst (λ k. base + k ≤ n) (sum_by-cons size c cs) a) q)
  same_chars (c ∷ cs) (d ∷ ds) r s n base e a b p q =
      let same = encode_same c d (encode_utf8_all cs ++ r) (encode_utf8_all ds ++ s) (sym (append_assoc (encode_utf8 c) (encode_utf8_all cs) r) ∙ e ∙ append_assoc (encode_utf8 d) (encode_utf8_all ds) s) in
      let sizes : size c ≡ size d = ap size same.0 in
      let here : base + sum_by size (c ∷ cs) ≡ base + size c + sum_by size cs = omega (arith, sum_by-cons size c cs) in
      let there : base + sum_by size (d ∷ ds) ≡ base + size c + sum_by size ds = omega (arith, sizes, sum_by-cons size d ds) in
      ap₂ (λ x xs. x ∷ xs) same.0
      (same_chars cs ds r s n (base + size c) same.1 (subst (λ k. k ≤ n) here a) (subst (λ k. k ≤ n) there b) (subst (λ k. EndsBehind size n k r) here p) (subst (λ k. EndsBehind size n k s) there q))

  -- more units, no fewer characters
  more_chars : (cs ds r s : List ℕ) (n m base : ℕ) → encode_utf8_all cs ++ r ≡ encode_utf8_all ds ++ s → n ≤ m → base + sum_by size cs ≤ n → EndsBehind size m (base + sum_by size ds) s →
      length (encode_utf8_all cs) ≤ length (encode_utf8_all ds)
  more_chars [] ds r s n m base e more a p = omega arith
  more_chars (c ∷ cs) [] r s n m base e more a p = absurd (not_behind c cs s r m base (sym e) (omega (arith, sum_by-cons size c cs)) p)
  more_chars (c ∷ cs) (d ∷ ds) r s n m base e more a p =
      let same = encode_same c d (encode_utf8_all cs ++ r) (encode_utf8_all ds ++ s) (sym (append_assoc (encode_utf8 c) (encode_utf8_all cs) r) ∙ e ∙ append_assoc (encode_utf8 d) (encode_utf8_all ds) s) in
      let sizes : size c ≡ size d = ap size same.0 in
      let bytes : length (encode_utf8 c) ≡ length (encode_utf8 d) = ap (λ x. length (encode_utf8 x)) same.0 in
      let there : base + sum_by size (d ∷ ds) ≡ base + size c + sum_by size ds = omega (arith, sizes, sum_by-cons size d ds) in
      let rest = more_chars cs ds r s n m (base + size c) same.1 more (omega (arith, sum_by-cons size c cs)) (subst (λ k. EndsBehind size m k s) there p) in
      omega (arith, rest, bytes, length-append (encode_utf8 c) (encode_utf8_all cs), length-append (encode_utf8 d) (encode_utf8_all ds))

-- the whole characters among the first n units are these alone
pub AreCharsWithin-only : (size : ℕ → ℕ) (bytes : List ℕ) (n : ℕ) (cs ds : List ℕ) → AreCharsWithin size bytes n cs → AreCharsWithin size bytes n ds → cs ≡ ds
AreCharsWithin-only size bytes n cs ds a b =
    let zeroth : (k : ℕ) → k ≡ 0 + k = λ k. omega arith in
    same_chars size cs ds a.rest b.rest n 0 (sym a.parts ∙ b.parts) (omega (arith, a.within)) (omega (arith, b.within))
    (subst (λ k. EndsBehind size n k a.rest) (zeroth (sum_by size cs)) a.whole)
    (subst (λ k. EndsBehind size n k b.rest) (zeroth (sum_by size ds)) b.whole)

-- and no fewer among more units
pub AreCharsWithin-more : (size : ℕ → ℕ) (bytes : List ℕ) (n m : ℕ) (cs ds : List ℕ) → n ≤ m → AreCharsWithin size bytes n cs → AreCharsWithin size bytes m ds → length (encode_utf8_all cs) ≤ length (encode_utf8_all ds)
AreCharsWithin-more size bytes n m cs ds more a b =
    let zeroth : sum_by size ds ≡ 0 + sum_by size ds = omega arith in
    more_chars size cs ds a.rest b.rest n m 0 (sym a.parts ∙ b.parts) more (omega (arith, a.within)) (subst (λ k. EndsBehind size m k b.rest) zeroth b.whole)

-- ---- the position
pub IsPositionIn-only : (enc : Encoding) (text : List ℕ) (offset : ℕ) (a b : Pos) → IsPositionIn enc text offset a → IsPositionIn enc text offset b → a ≡ b
IsPositionIn-only enc text offset a b p q =
    let zeroth : (k : ℕ) → k ≡ 0 + k = λ k. omega arith in
    let lines = AreLines-only p.cut q.cut in
    let before = same_before p.before q.before p.line q.line p.after q.after offset 0 lines
    (subst (λ k. IsInLine offset k p.line p.after) (zeroth (lines_bytes p.before)) p.inside)
    (subst (λ k. IsInLine offset k q.line q.after) (zeroth (lines_bytes q.before)) q.inside) in
    let rest = append_cancel_left q.before (p.line ∷ p.after) (q.line ∷ q.after) (ap (λ xs. xs ++ p.line ∷ p.after) (sym before) ∙ lines) in
    let line : p.line ≡ q.line = cc in
    let starts : lines_bytes p.before ≡ lines_bytes q.before = ap lines_bytes before in
    let into : p.into ≡ q.into = omega (arith, p.far, q.far) in
    let moved = subst (λ n. AreCharsWithin utf8_len q.line.content n p.chars) into (subst (λ l. AreCharsWithin utf8_len l.content p.into p.chars) line p.chars_before) in
    let chars = AreCharsWithin-only utf8_len q.line.content q.into p.chars q.chars moved q.chars_before in
    ap₂ (λ line character. record { line = line; character = character }) (p.number ∙ ap length before ∙ sym q.number) (p.character ∙ ap (sum_by (units_of enc)) chars ∙ sym q.character)
