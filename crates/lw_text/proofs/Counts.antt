-- How many units a text takes: no more than it has bytes, and in UTF-16 what the lanes count.
use Rattle.std.proofs.Common.{◌≡◌, ℕ, ◌+◌, ◌<◌, ◌≤◌, inl, inr, ◌-◌, List, [], ◌∷◌, ◌++◌, take, drop, take-add, sym, IsCharBoundary, length, refl, ap, ◌∙◌, sum_by, length-append, length-drop, subst, encode_utf8, encode_utf8_all, chars, IsUtf8, arith, zero-le}
use Rattle.std.proofs.lemmas.List.Sums.{sum_by-append, sum_by-cons}
use Rattle.std.proofs.lemmas.Str.{IsCharBoundary-past_char, IsUtf8-drop, IsUtf8-take, chars-append, length-encode, encodes-chars, len_utf8_bounds}
use Rattle.std.specs.Char.{len_utf8}
use Rattle.std.proofs.lemmas.Bool.Decides.{nat_tests}
use Rattle.std.proofs.lemmas.Bool.{cases_lt, le-ltb, lt-ltb}
use Rattle.std.specs.Char.Escape.{encode_utf16}
use Rattle.std.specs.List.{flat_map}
use Rattle.lw_lanes.specs.Utf8.{in_utf16}
use Rattle.lw_text.specs.Position.{utf16_len}

utf16_len-le : (c : ℕ) → utf16_len c ≤ length (encode_utf8 c)
utf16_len-le c = let is = length-encode c in grind (arith, nat_tests)

utf16_units-le : (cs : List ℕ) → sum_by utf16_len cs ≤ length (encode_utf8_all cs)
utf16_units-le [] = zero-le
utf16_units-le (c ∷ cs) =
    let units : sum_by utf16_len (c ∷ cs) ≡ utf16_len c + sum_by utf16_len cs = sum_by-cons utf16_len c cs in
    let bytes : length (encode_utf8_all (c ∷ cs)) ≡ length (encode_utf8 c) + length (encode_utf8_all cs) = length-append (encode_utf8 c) (encode_utf8_all cs) in
    omega (arith, utf16_len-le c, utf16_units-le cs)

pub utf16_units-chars-le : (text : List ℕ) → IsUtf8 text → sum_by utf16_len (chars text) ≤ length text
utf16_units-chars-le text utf8 = subst (λ bytes. sum_by utf16_len (chars text) ≤ length bytes) (encodes-chars text utf8) (utf16_units-le (chars text))

-- the units of the text in UTF-16, one by one
length-encode_utf16 : (c : ℕ) → length (encode_utf16 c) ≡ utf16_len c
length-encode_utf16 c = elim (cases_lt c 0x1_0000) [ inl one ↦ rw (lt-ltb c 0x1_0000 one) refl | inr two ↦ rw (le-ltb c 0x1_0000 two) refl ]

length-flat_map : (cs : List ℕ) → length (flat_map encode_utf16 cs) ≡ sum_by utf16_len cs
length-flat_map [] = refl
length-flat_map (c ∷ cs) = omega (arith, length-append (encode_utf16 c) (flat_map encode_utf16 cs), length-encode_utf16 c, length-flat_map cs, sum_by-cons utf16_len c cs)

pub length-in_utf16 : (text : List ℕ) → length (in_utf16 text) ≡ sum_by utf16_len (chars text)
length-in_utf16 text = length-flat_map (chars text)

-- a count over one text after the other
pub units-append : (size : ℕ → ℕ) (front back : List ℕ) → IsUtf8 front → sum_by size (chars (front ++ back)) ≡ sum_by size (chars front) + sum_by size (chars back)
units-append size front back utf8 = ap (sum_by size) (chars-append front back utf8) ∙ sum_by-append size (chars front) (chars back)

pub units-between : (size : ℕ → ℕ) (text : List ℕ) (place next : ℕ) → IsUtf8 text → IsCharBoundary text place → place ≤ next →
    sum_by size (chars (take next text)) ≡ sum_by size (chars (take place text)) + sum_by size (chars (take (next - place) (drop place text)))
units-between size text place next utf8 at onwards =
    let far : place + (next - place) ≡ next = omega arith in
    let split : take next text ≡ take place text ++ take (next - place) (drop place text) = ap (λ n. take n text) (sym far) ∙ take-add place (next - place) text in
    ap (λ bytes. sum_by size (chars bytes)) split ∙ units-append size (take place text) (take (next - place) (drop place text)) (IsUtf8-take text place utf8 at)

-- a text that goes on has a boundary at most four bytes further on
boundary_behind : (text : List ℕ) (place : ℕ) (cs : List ℕ) → place < length text → IsUtf8 (drop place text) → encode_utf8_all cs ≡ drop place text →
    (next : ℕ) × (place < next) × (next ≤ place + 4) × IsCharBoundary text next
boundary_behind text place [] within utf8 is = absurd (omega (arith, length-drop place text, ap length is))
boundary_behind text place (c ∷ cs) within utf8 is =
    let size = len_utf8_bounds c in
    (place + len_utf8 c, omega (arith, size.0), omega (arith, size.1), IsCharBoundary-past_char text (encode_utf8_all cs) place c (omega arith) utf8 (sym is))

-- so the last boundary within four bytes or more is further on
pub boundary_onwards : (text : List ℕ) (place most next : ℕ) → IsUtf8 text → IsCharBoundary text place → place < length text → place + 4 ≤ most → ((i : ℕ) → next < i → i ≤ most → ¬ (IsCharBoundary text i)) → place < next
boundary_onwards text place most next utf8 at within wide nearest =
    let rest = IsUtf8-drop text place utf8 at in
    let behind = boundary_behind text place (chars (drop place text)) within rest (encodes-chars (drop place text) rest) in
    elim (cases_lt place next) [ inl onwards ↦ onwards | inr stays ↦ absurd (nearest behind.0 (omega (arith, behind.1)) (omega (arith, behind.2)) behind.3) ]
