-- Where what stands at a place of a text ends, and what form its bytes have.
use Rattle.std.proofs.Common.{◌≡◌, ◌<◌, ◌≤◌, ℕ, ◌+◌, ◌-◌, List, [], ◌∷◌, ◌++◌, length, take, drop, take_while, Bool, true, false, not, ◌||◌, refl, sym, ap, ◌∙◌, subst, inl, inr, arith, codes, encode_utf8, get_or, nat_le, nat_lt, ◌==◌, append_assoc, length-append, length-drop, zero-add, one-add, get_or-take, take-append-drop, IsUtf8, IsCharBoundary}
use Rattle.std.specs.List.{prefix_len}
use Rattle.std.specs.Int.{is_in_range}
use Rattle.std.specs.Char.{is_ascii_alphanumeric, is_ascii_lowercase, len_utf8}
use Rattle.std.proofs.Math.Seq.{get_or-append_seam, drop-append-add, take-append_seam, take-length}
use Rattle.std.proofs.lemmas.Bool.{cases_eq, or_cases, and_parts, leb-true, eqb-true, not-false}
use Rattle.std.proofs.lemmas.List.{get_or-drop, get_or-append-add}
use Rattle.std.proofs.lemmas.List.Folds.{length-prefix_len}
use Rattle.std.proofs.lemmas.List.Sums.{prefix_len-le-length, prefix_len_passes, prefix_len_stops, prefix_len_is}
use Rattle.std.proofs.lemmas.Str.{IsUtf8-drop, IsCharBoundary-after_ascii, IsCharBoundary-from_rest, IsCharBoundary-past_char, length-encode, len_utf8_bounds}
use Rattle.std.proofs.lemmas.Bool.{ltb-true}
use Rattle.std.proofs.lemmas.Slice.Eq.{bytes_eq-Decides}
use Rattle.lw_gramlex.specs.declared.token.Symbol.{Symbol}
use Rattle.lw_gramlex.specs.declared.token.Symbol.TheVariants.{DotDot, PlusEquals, QuestionEquals, FatArrow, ThinArrow, Colon, Semicolon, Question, Star, Plus, Bar, OpenParenthesis, CloseParenthesis, OpenBracket, CloseBracket, OpenBrace, CloseBrace, Comma, Dot, At, Equals, Less, Greater, Ampersand, Exclamation}
use Rattle.lw_gramlex.specs.declared.token.FileKind.{FileKind}
use Rattle.lw_gramlex.specs.Symbols.{IsSymbol, spelling}
use Rattle.lw_gramlex.specs.Places.{IsOfKind}
use Rattle.lw_gramlex.proofs.StepLemmas.{word_start_ascii}
use Rattle.lw_gramlex.specs.FileTokens.{BeginsWith, IsHidden, IsWord, IsPlainWord, IsString, IsRegex, IsFileToken, is_word_part, is_line_end}

-- ---- what is ASCII

range_ascii : (lo hi b : ℕ) → hi < 128 → is_in_range lo hi b ≡ true → b < 128
range_ascii lo hi b low h = omega (arith, leb-true b hi (and_parts (nat_le lo b) (nat_le b hi) h).1)

word_part_ascii : (b : ℕ) → is_word_part b ≡ true → b < 128
word_part_ascii b h = elim (or_cases (is_ascii_alphanumeric b) (b == 95) h) [
  | inl part ↦ elim (or_cases (is_in_range 48 57 b || is_in_range 65 90 b) (is_in_range 97 122 b) part) [
    | inl front ↦ elim (or_cases (is_in_range 48 57 b) (is_in_range 65 90 b) front) [ inl digit ↦ range_ascii 48 57 b (omega arith) digit | inr upper ↦ range_ascii 65 90 b (omega arith) upper ]
    | inr lower ↦ range_ascii 97 122 b (omega arith) lower
  ]
  | inr underscore ↦ omega (arith, eqb-true b 95 underscore)
]

lowercase_ascii : (b : ℕ) → is_ascii_lowercase b ≡ true → b < 128
lowercase_ascii b h = range_ascii 97 122 b (omega arith) h

line_end_ascii : (b : ℕ) → is_line_end b ≡ true → b < 128
line_end_ascii b h = elim (or_cases (b == 10) (b == 13) h) [ inl feed ↦ omega (arith, eqb-true b 10 feed) | inr return ↦ omega (arith, eqb-true b 13 return) ]

-- ---- where a text may be cut

pub before_ascii : (t : List ℕ) (n : ℕ) → n ≤ length t → (n < length t → get_or t n 0 < 128) → IsCharBoundary t n
before_ascii t n le ascii = (le, λ lt above. absurd (omega (arith, ascii lt)))

pub behind_byte : (t xs ys : List ℕ) (b : ℕ) → IsUtf8 t → t ≡ xs ++ b ∷ ys → b < 128 → IsCharBoundary t (length xs + 1)
behind_byte t xs ys b utf8 e ascii =
    let at : get_or t (length xs) 0 ≡ b = ap (λ x. get_or x (length xs) 0) e ∙ get_or-append_seam xs b ys 0 in
    IsCharBoundary-after_ascii t (length xs) utf8 (omega (arith, ap length e, length-append xs (b ∷ ys))) (omega (arith, at))

-- behind bytes that pass a test for ASCII
behind_run : (t : List ℕ) (i : ℕ) (p : ℕ → Bool) (after : List ℕ) → IsUtf8 t → IsCharBoundary t i → drop i t ≡ after → ((c : ℕ) → p c ≡ true → c < 128) →
    IsCharBoundary t (i + length (take_while p after))
behind_run t i p after utf8 at e ascii = elim (cases_eq n 0) [
  | inl none ↦ subst (IsCharBoundary t) (let h : i ≡ i + n = omega arith in h) at
  | inr some ↦ subst (IsCharBoundary t) (let h : i + (n - 1) + 1 ≡ i + n = omega arith in h) (IsCharBoundary-after_ascii t (i + (n - 1)) utf8 (omega (arith, fits, count, ap length e, length-drop i t)) (low some))
]
  where
    n : ℕ
    n = length (take_while p after)

    count : n ≡ prefix_len p after
    count = length-prefix_len p after

    fits : prefix_len p after ≤ length after
    fits = prefix_len-le-length p after

    low : (n ≡ 0 → ⊥) → get_or t (i + (n - 1)) 0 < 128
    low some =
        let passes : p (get_or after (n - 1) 0) ≡ true = prefix_len_passes p after (n - 1) 0 (omega (arith, count)) in
        let is : get_or after (n - 1) 0 ≡ get_or t (i + (n - 1)) 0 = ap (λ x. get_or x (n - 1) 0) (sym e) ∙ get_or-drop i t (n - 1) 0 in
        subst (λ x. x < 128) is (ascii (get_or after (n - 1) 0) passes)

-- what is read at a place: not empty, and it splits no character
pub record IsCut (t : List ℕ) (n : ℕ) : Type 0 where
  pub some : 0 < n
  pub ends : IsCharBoundary t n

char_cut : (t : List ℕ) (c : ℕ) → IsUtf8 t → BeginsWith t c → IsCut t (length (encode_utf8 c))
char_cut t c utf8 p =
    let long : 0 + len_utf8 c ≡ length (encode_utf8 c) = zero-add (len_utf8 c) ∙ sym (length-encode c) in
    record { some = omega (arith, length-encode c, (len_utf8_bounds c).0); ends = subst (IsCharBoundary t) long (IsCharBoundary-past_char t p.after 0 c (omega arith) utf8 p.parts) }

line_cut : (t after : List ℕ) → t ≡ 47 ∷ 47 ∷ after → IsCharBoundary t (2 + length (take_while (λ c. not (is_line_end c)) after))
line_cut t after e = before_ascii t (2 + n) (omega (arith, count, fits, ap length e)) (λ within. subst (λ x. x < 128) at (line_end_ascii (get_or after (prefix_len p after) 0) (stops within)))
  where
    p : ℕ → Bool
    p = λ c. not (is_line_end c)

    n : ℕ
    n = length (take_while p after)

    count : n ≡ prefix_len p after
    count = length-prefix_len p after

    fits : prefix_len p after ≤ length after
    fits = prefix_len-le-length p after

    stops : 2 + n < length t → is_line_end (get_or after (prefix_len p after) 0) ≡ true
    stops within = not-false (is_line_end (get_or after (prefix_len p after) 0)) (prefix_len_stops p after 0 (omega (arith, count, ap length e)))

    at : get_or after (prefix_len p after) 0 ≡ get_or t (2 + n) 0
    at = ap (λ k. get_or after k 0) (sym count) ∙ sym (get_or-append-add (47 ∷ 47 ∷ []) after n 0) ∙ ap (λ x. get_or x (2 + n) 0) (sym e)

block_cut : (t inside after : List ℕ) → IsUtf8 t → t ≡ codes "/*" ++ inside ++ codes "*/" ++ after → IsCharBoundary t (length inside + 4)
block_cut t inside after utf8 e =
    let front = 47 ∷ 42 ∷ (inside ++ 42 ∷ []) in
    let split : (inside ++ 42 ∷ 47 ∷ []) ++ after ≡ (inside ++ 42 ∷ []) ++ 47 ∷ after = append_assoc inside (42 ∷ 47 ∷ []) after ∙ sym (append_assoc inside (42 ∷ []) (47 ∷ after)) in
    subst (IsCharBoundary t) (let h : length front + 1 ≡ length inside + 4 = omega (arith, length-append inside (42 ∷ [])) in h)
    (behind_byte t front after 47 utf8 (e ∙ ap (λ x. 47 ∷ 42 ∷ x) split) (omega arith))

pub hidden_cut : (t : List ℕ) (n : ℕ) → IsUtf8 t → IsHidden t n → IsCut t n
hidden_cut t _ utf8 (IsHidden.white c p white) = char_cut t c utf8 p
hidden_cut t _ utf8 (IsHidden.line_comment after e) = record { some = omega arith; ends = line_cut t after e }
hidden_cut t _ utf8 (IsHidden.block_comment inside after e least) = record { some = omega arith; ends = block_cut t inside after utf8 e }

plain_cut : (t : List ℕ) (n : ℕ) → IsUtf8 t → IsPlainWord t n → IsCut t n
plain_cut t n utf8 p = record {
  some = omega (arith, p.bytes);
  ends = subst (IsCharBoundary t) (sym p.bytes) (behind_run t 1 is_word_part p.after utf8 (behind_byte t [] p.after p.first utf8 p.parts (word_start_ascii p.first p.starts)) (ap (drop 1) p.parts) word_part_ascii);
}

word_cut : (t : List ℕ) (n : ℕ) → IsUtf8 t → IsWord t n → IsCut t n
word_cut t n utf8 (IsWord.plain p) = plain_cut t n utf8 p
word_cut t _ utf8 (IsWord.marked {n = k} after e p) =
    let one : IsCharBoundary t 1 = behind_byte t [] after 94 utf8 e (omega arith) in
    let rest : drop 1 t ≡ after = ap (drop 1) e in
    let c : IsCut (drop 1 t) k = plain_cut (drop 1 t) k (IsUtf8-drop t 1 utf8 one) (subst (λ x. IsPlainWord x k) (sym rest) p) in
    record { some = omega arith; ends = IsCharBoundary-from_rest t 1 k one.0 c.ends }

string_cut : (t : List ℕ) (n : ℕ) → IsUtf8 t → IsString t n → IsCut t n
string_cut t n utf8 s =
    let ascii : s.quote < 128 = elim s.is_quote [ inl single ↦ omega arith | inr double ↦ omega arith ] in
    record {
      some = omega (arith, s.bytes);
      ends = subst (IsCharBoundary t) (let h : length (s.quote ∷ s.inside) + 1 ≡ n = omega (arith, s.bytes) in h) (behind_byte t (s.quote ∷ s.inside) s.after s.quote utf8 s.parts ascii);
    }

regex_cut : (t : List ℕ) (flags n : ℕ) → IsUtf8 t → IsRegex t flags n → IsCut t n
regex_cut t flags n utf8 r =
    let front = 47 ∷ (r.first ++ r.others) in
    let slash : IsCharBoundary t (length front + 1) = behind_byte t front r.after 47 utf8 r.parts (omega arith) in
    let rest : drop (length front + 1) t ≡ r.after = ap (drop (length front + 1)) r.parts ∙ drop-append-add front (47 ∷ r.after) 1 in
    record {
      some = omega (arith, r.bytes);
      ends = subst (IsCharBoundary t) (let h : length front + 1 + length (take_while is_ascii_lowercase r.after) ≡ n = omega (arith, r.bytes, r.count, length-append r.first r.others) in h)
          (behind_run t (length front + 1) is_ascii_lowercase r.after utf8 slash rest lowercase_ascii);
    }

-- the bytes of a symbol: one or two, and each is ASCII
abbrev pub is_short : List ℕ → Bool
is_short [] = false
is_short (a ∷ []) = nat_lt a 128
is_short (a ∷ b ∷ []) = nat_lt b 128
is_short (a ∷ b ∷ c ∷ cs) = false

pub symbol_short : (s : Symbol) → is_short (spelling s) ≡ true
symbol_short DotDot = refl
symbol_short PlusEquals = refl
symbol_short QuestionEquals = refl
symbol_short FatArrow = refl
symbol_short ThinArrow = refl
symbol_short Colon = refl
symbol_short Semicolon = refl
symbol_short Question = refl
symbol_short Star = refl
symbol_short Plus = refl
symbol_short Bar = refl
symbol_short OpenParenthesis = refl
symbol_short CloseParenthesis = refl
symbol_short OpenBracket = refl
symbol_short CloseBracket = refl
symbol_short OpenBrace = refl
symbol_short CloseBrace = refl
symbol_short Comma = refl
symbol_short Dot = refl
symbol_short At = refl
symbol_short Equals = refl
symbol_short Less = refl
symbol_short Greater = refl
symbol_short Ampersand = refl
symbol_short Exclamation = refl

short_cut : (t xs ys : List ℕ) → IsUtf8 t → t ≡ xs ++ ys → is_short xs ≡ true → IsCut t (length xs)
short_cut t [] ys utf8 e h = cc
short_cut t (a ∷ []) ys utf8 e h = record { some = omega arith; ends = behind_byte t [] ys a utf8 e (ltb-true a 128 h) }
short_cut t (a ∷ b ∷ []) ys utf8 e h = record { some = omega arith; ends = behind_byte t (a ∷ []) ys b utf8 e (ltb-true b 128 h) }
short_cut t (a ∷ b ∷ c ∷ cs) ys utf8 e h = cc

pub symbol_front : (t : List ℕ) (s : Symbol) → IsSymbol t s → take (length (spelling s)) t ≡ spelling s
symbol_front t s p = sym ((bytes_eq-Decides (spelling s) (take (length (spelling s)) t)).0 p.begins)

symbol_cut : (t : List ℕ) (s : Symbol) → IsUtf8 t → IsSymbol t s → IsCut t (length (spelling s))
symbol_cut t s utf8 p =
    let n = length (spelling s) in
    short_cut t (spelling s) (drop n t) utf8 (sym (take-append-drop n t) ∙ ap (λ x. x ++ drop n t) (symbol_front t s p)) (symbol_short s)

pub token_cut : (t : List ℕ) (k : FileKind) (n : ℕ) → IsUtf8 t → IsFileToken t k n → IsCut t n
token_cut t _ n utf8 (IsFileToken.word w) = word_cut t n utf8 w
token_cut t _ n utf8 (IsFileToken.string w) = string_cut t n utf8 w
token_cut t _ n utf8 (IsFileToken.regex {flags = f} w) = regex_cut t f n utf8 w
token_cut t _ _ utf8 (IsFileToken.symbol s w) = symbol_cut t s utf8 w
token_cut t _ _ utf8 (IsFileToken.other c p no_hidden no_word no_string no_regex no_symbol) = char_cut t c utf8 p

-- ---- the bytes of a token

-- what a text begins with is its first bytes
front_is : (t xs ys : List ℕ) (n : ℕ) → t ≡ xs ++ ys → n ≡ length xs → take n t ≡ xs
front_is t xs ys n e count = ap (λ k. take k t) count ∙ ap (take (length xs)) e ∙ take-append_seam xs ys

-- a longest front passes whole
take_while-take_while : (p : ℕ → Bool) (xs : List ℕ) → take_while p (take_while p xs) ≡ take_while p xs
take_while-take_while p xs = ap (λ n. take n front) whole ∙ take-length front
  where
    front : List ℕ
    front = take_while p xs

    count : length front ≡ prefix_len p xs
    count = length-prefix_len p xs

    passes : (k : ℕ) → k < length front → p (get_or front k 0) ≡ true
    passes k lt = ap p (get_or-take (prefix_len p xs) xs k 0 (omega (arith, count))) ∙ prefix_len_passes p xs k 0 (omega (arith, count))

    whole : prefix_len p front ≡ length front
    whole = prefix_len_is p front (length front) 0 (omega arith) passes (λ lt. absurd (omega arith))

-- the bytes that are read, and what stands behind them
plain_split : (t : List ℕ) (n : ℕ) (p : IsPlainWord t n) → (take n t ≡ p.first ∷ take_while is_word_part p.after)
plain_split t n p =
    let k = prefix_len is_word_part p.after in
    let whole : t ≡ (p.first ∷ take_while is_word_part p.after) ++ drop k p.after = p.parts ∙ ap (λ x. p.first ∷ x) (sym (take-append-drop k p.after)) in
    front_is t (p.first ∷ take_while is_word_part p.after) (drop k p.after) n whole (omega (arith, p.bytes))

plain_form : (t : List ℕ) (n : ℕ) → IsPlainWord t n → IsPlainWord (take n t) (length (take n t))
plain_form t n p =
    let split = plain_split t n p in
    let front = take_while is_word_part p.after in
    let count : length (take n t) ≡ 1 + length front = ap length split ∙ (let h : length (p.first ∷ front) ≡ 1 + length front = omega arith in h) in
    record { first = p.first; after = front; parts = split; starts = p.starts; bytes = count ∙ ap (λ x. 1 + length x) (sym (take_while-take_while is_word_part p.after)) }

word_form : (t : List ℕ) (n : ℕ) → IsWord t n → IsWord (take n t) (length (take n t))
word_form t n (IsWord.plain p) = IsWord.plain (plain_form t n p)
word_form t _ (IsWord.marked {n = k} after e p) =
    let split : take (1 + k) t ≡ 94 ∷ take k after = ap (take (1 + k)) e ∙ (rw one-add refl) in
    subst (λ x. IsWord x (length x)) (sym split) (subst (IsWord (94 ∷ take k after)) (let h : 1 + length (take k after) ≡ length (94 ∷ take k after) = omega arith in h) (IsWord.marked (take k after) refl (plain_form after k p)))

string_form : (t : List ℕ) (n : ℕ) → IsString t n → IsString (take n t) (length (take n t))
string_form t n s =
    let bytes = s.quote ∷ (s.inside ++ s.quote ∷ []) in
    let whole : t ≡ bytes ++ s.after = s.parts ∙ ap (λ x. s.quote ∷ x) (sym (append_assoc s.inside (s.quote ∷ []) s.after)) in
    let split : take n t ≡ bytes = front_is t bytes s.after n whole (omega (arith, s.bytes, length-append s.inside (s.quote ∷ []))) in
    record { quote = s.quote; is_quote = s.is_quote; inside = s.inside; after = []; parts = split; within = s.within; bytes = omega (arith, ap length split, length-append s.inside (s.quote ∷ [])) }

regex_form : (t : List ℕ) (flags n : ℕ) → IsRegex t flags n → IsRegex (take n t) flags (length (take n t))
regex_form t flags n r =
    let body = r.first ++ r.others in
    let letters = take_while is_ascii_lowercase r.after in
    let k = prefix_len is_ascii_lowercase r.after in
    let bytes = 47 ∷ (body ++ 47 ∷ letters) in
    let tail : body ++ 47 ∷ r.after ≡ (body ++ 47 ∷ letters) ++ drop k r.after = ap (λ x. body ++ 47 ∷ x) (sym (take-append-drop k r.after)) ∙ sym (append_assoc body (47 ∷ letters) (drop k r.after)) in
    let whole : t ≡ bytes ++ drop k r.after = r.parts ∙ ap (λ x. 47 ∷ x) tail in
    let size : length bytes ≡ n = omega (arith, r.bytes, r.count, length-append body (47 ∷ letters), length-append r.first r.others) in
    let split : take n t ≡ bytes = front_is t bytes (drop k r.after) n whole (sym size) in
    record {
      first = r.first;
      others = r.others;
      after = letters;
      parts = split;
      is_part = r.is_part;
      no_star = r.no_star;
      are_parts = r.are_parts;
      count = r.count ∙ ap length (sym (take_while-take_while is_ascii_lowercase r.after));
      bytes = ap length split ∙ size ∙ r.bytes;
    }

pub token_form : (t : List ℕ) (k : FileKind) (n : ℕ) → IsFileToken t k n → IsOfKind k (take n t)
token_form t _ n (IsFileToken.word w) = word_form t n w
token_form t _ n (IsFileToken.string s) = string_form t n s
token_form t _ n (IsFileToken.regex {flags = f} r) = regex_form t f n r
token_form t _ _ (IsFileToken.symbol s w) = symbol_front t s w
token_form t _ _ (IsFileToken.other c p no_hidden no_word no_string no_regex no_symbol) = (c, p.scalar, front_is t (encode_utf8 c) p.after (length (encode_utf8 c)) p.parts refl)
