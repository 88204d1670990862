-- What the tokens say.
use Rattle.std.proofs.Common.{◌≡◌, ◌≢◌, ◌<◌, ◌≤◌, ℕ, suc, ◌+◌, List, [], ◌∷◌, ◌++◌, length, get_or, drop, refl, sym, ap, ◌∙◌, inl, inr, arith, append_assoc, encode_utf8, encode_utf8_all, chars, Bool, true, false, ◌==◌, nat_lt, IsUtf8, IsCharBoundary}
use Rattle.std.proofs.lemmas.Bool.{ne_eqb, ltb-true, cases_lt, agree_below_at}
use Rattle.std.proofs.lemmas.List.{append-nil, drop_more}
use Rattle.std.proofs.lemmas.Str.{inside_one, encode_ascii, encodes-chars, length-encode, len_utf8_bounds}
use Rattle.std.proofs.Math.ListN.{drop_of_length-le}
use Rattle.lw_gramlex.specs.Values.{word_name, escape, with_escapes_read}
use Rattle.lw_gramlex.proofs.RegexLemmas.{with_backslash}
use Rattle.lw_gramlex.proofs.PlaceLemmas.{behind_byte}

-- ---- words

pub word_name_unmarked : (t : List ℕ) → ((rest : List ℕ) → t ≢ 94 ∷ rest) → t ≡ word_name t
word_name_unmarked [] unmarked = refl
word_name_unmarked (c ∷ cs) unmarked = rw (ne_eqb c 94 (λ e. unmarked cs (ap (λ x. x ∷ cs) e))) refl

-- ---- where the quotes and slashes stand

-- what stands between two ASCII bytes may be cut out
pub inside_starts : (t rest : List ℕ) (b : ℕ) → IsUtf8 t → t ≡ b ∷ rest → b < 128 → IsCharBoundary t 1
inside_starts t rest b utf8 e ascii = behind_byte t [] rest b utf8 e ascii

-- ---- escapes

escape_above : (b : ℕ) → 128 ≤ b → escape b ≡ b
escape_above b above =
    let n : (k : ℕ) → k < 128 → (b == k) ≡ false = λ k low. ne_eqb b k (λ e. omega (arith, low, above, e)) in
    rw (n 98 (omega arith), n 102 (omega arith), n 110 (omega arith), n 114 (omega arith), n 116 (omega arith), n 118 (omega arith), n 48 (omega arith)) refl

escape_low : ℕ → Bool
escape_low c = nat_lt (escape c) 128

escape_ascii : (c : ℕ) → c < 128 → escape c < 128
unfolding escape_low
escape_ascii c ascii = ltb-true (escape c) 128 (agree_below_at escape_low (λ _. true) 128 c refl ascii)

read_other : (a : ℕ) (rest : List ℕ) → a ≢ 92 → with_escapes_read (a ∷ rest) ≡ a ∷ with_escapes_read rest
read_other a [] apart = refl
read_other a (b ∷ rest) apart = rw (ne_eqb a 92 apart) refl

-- bytes that are no backslashes stay
read_front : (xs rest : List ℕ) → ((k : ℕ) → k < length xs → get_or xs k 0 ≢ 92) → with_escapes_read (xs ++ rest) ≡ xs ++ with_escapes_read rest
read_front [] rest none = refl
read_front (x ∷ xs) rest none =
    read_other x (xs ++ rest) (none 0 (omega arith)) ∙ ap (λ y. x ∷ y) (read_front xs rest (λ k lt. none (suc k) (omega arith)))

-- a byte below 128 of a character is the character
char_byte : (c k : ℕ) → k < length (encode_utf8 c) → get_or (encode_utf8 c) k 0 < 128 → c ≡ get_or (encode_utf8 c) k 0
char_byte c k within low = inside_one c [] (encode_utf8 c) k (sym (append-nil (encode_utf8 c))) within low

read_plain : (c : ℕ) (rest : List ℕ) → c ≢ 92 → with_escapes_read (encode_utf8 c ++ rest) ≡ encode_utf8 c ++ with_escapes_read rest
read_plain c rest apart = read_front (encode_utf8 c) rest (λ k within e. apart (char_byte c k within (omega (arith, e)) ∙ e))

-- behind a backslash the bytes of a character that is not ASCII stay
read_pair_bytes : (bytes rest : List ℕ) → 0 < length bytes → ((k : ℕ) → k < length bytes → 128 ≤ get_or bytes k 0) → with_escapes_read (92 ∷ (bytes ++ rest)) ≡ bytes ++ with_escapes_read rest
read_pair_bytes [] rest some above = absurd (omega arith)
read_pair_bytes (b ∷ bs) rest some above =
    ap (λ x. x ∷ with_escapes_read (bs ++ rest)) (escape_above b (above 0 (omega arith)))
    ∙ ap (λ y. b ∷ y) (read_front bs rest (λ k lt e. omega (arith, above (suc k) (omega arith), e)))

read_pair : (c : ℕ) (rest : List ℕ) → with_escapes_read (92 ∷ (encode_utf8 c ++ rest)) ≡ encode_utf8 (escape c) ++ with_escapes_read rest
read_pair c rest = elim (cases_lt c 128) [
  | inl ascii ↦
      rw (encode_ascii c ascii, encode_ascii (escape c) (escape_ascii c ascii)) refl
  | inr above ↦
      read_pair_bytes (encode_utf8 c) rest (omega (arith, length-encode c, (len_utf8_bounds c).0))
      (λ k within. elim (cases_lt (get_or (encode_utf8 c) k 0) 128) [ inl low ↦ absurd (omega (arith, char_byte c k within low)) | inr high ↦ high ])
      ∙ ap (λ x. encode_utf8 x ++ with_escapes_read rest) (sym (escape_above c above))
]

-- the loop: what is read of the first n characters, and whether a backslash is left
pub record IsReadTo (text value : List ℕ) (n : ℕ) (escaped : Bool) : Type 0 where
  pub so_far : value ++ with_escapes_read (with_backslash escaped (encode_utf8_all (drop n (chars text)))) ≡ with_escapes_read text

module _ (text value : List ℕ) (n c : ℕ) (turn : (n < length (chars text)) × (c ≡ get_or (chars text) n c)) where
  left : encode_utf8_all (drop n (chars text)) ≡ encode_utf8 c ++ encode_utf8_all (drop (n + 1) (chars text))
  left = ap encode_utf8_all (drop_more (chars text) n c turn.0) ∙ ap (λ x. encode_utf8 x ++ encode_utf8_all (drop (n + 1) (chars text))) (sym turn.1)

  pub pair_read : IsReadTo text value n true → IsReadTo text (value ++ encode_utf8 (escape c)) (n + 1) false
  pair_read r = record { so_far = append_assoc value (encode_utf8 (escape c)) (with_escapes_read (encode_utf8_all (drop (n + 1) (chars text)))) ∙ ap (λ x. value ++ x) (sym (ap (λ x. with_escapes_read (92 ∷ x)) left ∙ read_pair c (encode_utf8_all (drop (n + 1) (chars text))))) ∙ r.so_far }

  pub plain_read : c ≢ 92 → IsReadTo text value n false → IsReadTo text (value ++ encode_utf8 c) (n + 1) false
  plain_read apart r = record { so_far = append_assoc value (encode_utf8 c) (with_escapes_read (encode_utf8_all (drop (n + 1) (chars text)))) ∙ ap (λ x. value ++ x) (sym (ap with_escapes_read left ∙ read_plain c (encode_utf8_all (drop (n + 1) (chars text))) apart)) ∙ r.so_far }

  pub backslash_read : c ≡ 92 → IsReadTo text value n false → IsReadTo text value (n + 1) true
  backslash_read is r = record { so_far = ap (λ x. value ++ with_escapes_read x) (sym (left ∙ ap (λ x. encode_utf8 x ++ encode_utf8_all (drop (n + 1) (chars text))) is ∙ ap (λ x. x ++ encode_utf8_all (drop (n + 1) (chars text))) (encode_ascii 92 (omega arith)))) ∙ r.so_far }

pub none_read : (text : List ℕ) → IsUtf8 text → IsReadTo text [] 0 false
none_read text utf8 = record { so_far = ap with_escapes_read (encodes-chars text utf8) }

module _ (text value : List ℕ) (n : ℕ) (at_end : length (chars text) ≤ n) where
  empty : encode_utf8_all (drop n (chars text)) ≡ []
  empty = ap encode_utf8_all (drop_of_length-le (chars text) at_end)

  pub all_read : IsReadTo text value n false → value ≡ with_escapes_read text
  all_read r = sym (append-nil value) ∙ ap (λ x. value ++ with_escapes_read x) (sym empty) ∙ r.so_far

  pub all_read_but_one : IsReadTo text value n true → value ++ encode_utf8 92 ≡ with_escapes_read text
  all_read_but_one r = ap (λ x. value ++ x) (encode_ascii 92 (omega arith)) ∙ ap (λ x. value ++ with_escapes_read (92 ∷ x)) (sym empty) ∙ r.so_far
