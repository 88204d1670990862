-- The whole characters among the first units of a text.
use Rattle.std.proofs.Common.{◌≡◌, ℕ, ◌+◌, ◌-◌, ◌<◌, ◌≤◌, inl, inr, ⊎_elim, true, List, [], ◌∷◌, ◌++◌, length, sum_by, take, drop, All, refl, sym, ap, ◌∙◌, subst, append_assoc, arith, length-append, length-take-le, take-append-drop, encode_utf8, encode_utf8_all, chars, IsUtf8, IsCharBoundary}
use Rattle.std.specs.Char.{IsScalar}
use Rattle.std.specs.Str.{all_scalars}
use Rattle.std.proofs.lemmas.Bool.{and_parts, cases_lt}
use Rattle.std.proofs.lemmas.List.{nil_from_length}
use Rattle.std.proofs.lemmas.List.Elements.{All-nil, All-cons, All-append}
use Rattle.std.proofs.lemmas.List.Sums.{sum_by-append, sum_by-cons}
use Rattle.std.proofs.lemmas.Str.{IsUtf8-take, cons_from_encodes, encodes-append, encodes-chars, scalars-chars}
use Rattle.lw_text.specs.Position.{AreCharsWithin}
use Rattle.lw_text.proofs.Places.{All-IsScalar}

-- ---- what a text begins with
-- these characters begin a text, and these bytes follow
pub record Begins (ds cs rest : List ℕ) : Type 0 where
  pub scalars : All IsScalar cs
  pub more : List ℕ
  pub more_scalars : all_scalars more ≡ true
  pub left : encode_utf8_all more ≡ rest

pub begins : (cs ds rest : List ℕ) → all_scalars ds ≡ true → encode_utf8_all ds ≡ encode_utf8_all cs ++ rest → Begins ds cs rest
begins [] ds rest scalars e = record { scalars = All-nil IsScalar; more = ds; more_scalars = scalars; left = e }
begins (c ∷ cs) ds rest scalars e =
    let found = cons_from_encodes ds (encode_utf8_all cs ++ rest) c (e ∙ append_assoc (encode_utf8 c) (encode_utf8_all cs) rest) in
    let parts = and_parts _ _ (ap all_scalars (sym found.1) ∙ scalars) in
    let others = begins cs found.0 rest parts.1 found.2 in
    record { scalars = All-cons IsScalar c cs parts.0 others.scalars; more = others.more; more_scalars = others.more_scalars; left = others.left }

module _ (size : ℕ → ℕ) (text : List ℕ) (n : ℕ) (cs rest : List ℕ) (utf8 : IsUtf8 text) (parts : text ≡ encode_utf8_all cs ++ rest) (within : sum_by size cs ≤ n) where
  start : Begins (chars text) cs rest
  start = begins cs (chars text) rest (scalars-chars text utf8) (encodes-chars text utf8 ∙ parts)

  -- they are the text
  pub AreCharsWithin-all : length rest ≡ 0 → AreCharsWithin size text n cs
  AreCharsWithin-all over = record { scalars = start.scalars; rest = rest; parts = parts; within = within; whole = inl (nil_from_length rest over) }

  -- the next character reaches past the units
  pub AreCharsWithin-cut : (c : ℕ) (more : List ℕ) → rest ≡ encode_utf8 c ++ more → n < sum_by size cs + size c → AreCharsWithin size text n cs
  AreCharsWithin-cut c more is past =
      let found = cons_from_encodes start.more more c (start.left ∙ is) in
      let scalar = (and_parts _ _ (ap all_scalars (sym found.1) ∙ start.more_scalars)).0 in
      record { scalars = start.scalars; rest = rest; parts = parts; within = within; whole = inr (c, scalar, more, is, past) }

-- ---- a piece after a piece
module _ (size : ℕ → ℕ) (text : List ℕ) (place left n : ℕ) (ds : List ℕ) (utf8 : IsUtf8 text) (at : IsCharBoundary text place) (counted : left + sum_by size (chars (take place text)) ≡ n) (found : AreCharsWithin size (drop place text) left ds) where
  front_utf8 : IsUtf8 (take place text)
  front_utf8 = IsUtf8-take text place utf8 at

  spelled : encode_utf8_all (chars (take place text)) ≡ take place text
  spelled = encodes-chars (take place text) front_utf8

  pub AreCharsWithin-after : AreCharsWithin size text n (chars (take place text) ++ ds)
  AreCharsWithin-after =
      let cs = chars (take place text) in
      let total : sum_by size (cs ++ ds) ≡ sum_by size cs + sum_by size ds = sum_by-append size cs ds in
      record {
        scalars = All-append IsScalar cs ds (All-IsScalar cs (scalars-chars (take place text) front_utf8)) found.scalars;
        rest = found.rest;
        parts = sym (take-append-drop place text) ∙ ap (λ bytes. take place text ++ bytes) found.parts ∙ ap (λ bytes. bytes ++ (encode_utf8_all ds ++ found.rest)) (sym spelled)
            ∙ sym (append_assoc (encode_utf8_all cs) (encode_utf8_all ds) found.rest) ∙ ap (λ bytes. bytes ++ found.rest) (sym (encodes-append cs ds));
        within = omega (arith, found.within);
        whole = ⊎_elim (λ over. inl over) (λ w. inr (w.0, w.1, w.2, w.3, omega (arith, w.4))) found.whole;
      }

  pub length-after : place + length (encode_utf8_all ds) ≡ length (encode_utf8_all (chars (take place text) ++ ds))
  length-after =
      let cs = chars (take place text) in
      let size : length (encode_utf8_all cs) ≡ place = ap length spelled ∙ length-take-le place text at.0 in
      omega (arith, ap length (encodes-append cs ds), length-append (encode_utf8_all cs) (encode_utf8_all ds))

-- ---- there are such characters
some_chars : (size : ℕ → ℕ) (cs : List ℕ) (n : ℕ) → all_scalars cs ≡ true → (ds : List ℕ) × AreCharsWithin size (encode_utf8_all cs) n ds
some_chars size [] n scalars = ([], record { scalars = All-nil IsScalar; rest = []; parts = refl; within = omega arith; whole = inl refl })
some_chars size (c ∷ cs) n scalars =
    let parts = and_parts _ _ scalars in
    ⊎_elim
    (λ past. ([], record { scalars = All-nil IsScalar; rest = encode_utf8_all (c ∷ cs); parts = refl; within = omega arith; whole = inr (c, parts.0, encode_utf8_all cs, refl, omega arith) }))
    (λ fits. let found = some_chars size cs (n - size c) parts.1 in
    let total : sum_by size (c ∷ found.0) ≡ size c + sum_by size found.0 = sum_by-cons size c found.0 in
    let result : (ds : List ℕ) × AreCharsWithin size (encode_utf8_all (c ∷ cs)) n ds = (
      c ∷ found.0,
      record {
        scalars = All-cons IsScalar c found.0 parts.0 found.1.scalars;
        rest = found.1.rest;
        parts = ap (λ bytes. encode_utf8 c ++ bytes) found.1.parts ∙ sym (append_assoc (encode_utf8 c) (encode_utf8_all found.0) found.1.rest);
        within = omega (arith, found.1.within);
        whole = ⊎_elim (λ over. inl over) (λ w. inr (w.0, w.1, w.2, w.3, omega (arith, w.4))) found.1.whole;
      },
    ) in result)
    (cases_lt n (size c))

pub AreCharsWithin-some : (size : ℕ → ℕ) (text : List ℕ) (n : ℕ) → IsUtf8 text → (cs : List ℕ) × AreCharsWithin size text n cs
AreCharsWithin-some size text n utf8 =
    subst (λ bytes. (cs : List ℕ) × AreCharsWithin size bytes n cs) (encodes-chars text utf8) (some_chars size (chars text) n (scalars-chars text utf8))
