-- At a place of a text at most one thing stands: a stretch that is passed over, or a token.
use Rattle.std.proofs.Common.{◌≡◌, ◌≢◌, ◌⊎◌, ◌<◌, ℕ, ◌+◌, ◌*◌, List, [], ◌∷◌, ◌++◌, length, Bool, true, false, not, ◌||◌, ◌==◌, if◌then◌else◌, refl, sym, ap, ◌∙◌, subst, inl, inr, arith, encode_utf8, get_or, take, nat_le}
use Rattle.std.specs.Int.{is_in_range}
use Rattle.std.specs.Char.{is_whitespace, is_ascii_alphabetic}
use Rattle.lw_gramlex.specs.declared.token.Symbol.{Symbol}
use Rattle.lw_gramlex.specs.declared.token.Symbol.TheVariants.{DotDot, PlusEquals, QuestionEquals, FatArrow, ThinArrow, Colon, Semicolon, Question, Star, Plus, Bar, OpenParenthesis, CloseParenthesis, OpenBracket, CloseBracket, OpenBrace, CloseBrace, Comma, Dot, At, Equals, Less, Greater, Ampersand, Exclamation}
use Rattle.lw_gramlex.specs.declared.token.FileKind.{FileKind}
use Rattle.lw_gramlex.specs.declared.token.FileKind.TheVariants as kind
use Rattle.lw_gramlex.specs.Symbols.{BeginsSpelling, IsSymbol, spelling}
use Rattle.lw_gramlex.specs.FileTokens.{BeginsWith, IsHidden, IsWord, IsString, IsRegex, IsFileToken, is_word_start}
use Rattle.std.proofs.lemmas.Bool.{ne_eqb, eqb-true, leb-true, cases_lt, lt-leb, le-leb, or_cases, or_parts, and_parts, not-true, cases_cond, agree_below_at}
use Rattle.std.proofs.lemmas.Slice.Eq.{bytes_eq-Decides}
use Rattle.lw_gramlex.proofs.HiddenLemmas.{begins_same, begins_byte, some_begun}
use Rattle.lw_gramlex.proofs.WordLemmas.{word_same}
use Rattle.lw_gramlex.proofs.StringLemmas.{string_same}
use Rattle.lw_gramlex.proofs.RegexLemmas.{regex_same, regex_parts}

-- ---- what a text begins with, by its first bytes

-- 1 for white space and comments, 2 for words, 3 for strings, 4 for regular expressions, 5 for symbols
abbrev behind_slash : List ℕ → ℕ
behind_slash [] = 4
behind_slash (c ∷ cs) = if (c == 47) || (c == 42) then 1 else 4

abbrev class_of : List ℕ → ℕ
class_of [] = 0
class_of (b ∷ bs) =
    if nat_le 128 b || is_whitespace b then 1
    else if b == 47 then behind_slash bs
    else if is_word_start b || (b == 94) then 2
    else if (b == 39) || (b == 34) then 3
    else 5

pub word_start_ascii : (b : ℕ) → is_word_start b ≡ true → b < 128
word_start_ascii b starts = elim (or_cases (is_ascii_alphabetic b) (b == 95) starts) [
  | inl letter ↦ elim (or_cases (is_in_range 65 90 b) (is_in_range 97 122 b) letter) [
    | inl upper ↦ omega (arith, leb-true b 90 (and_parts (nat_le 65 b) (nat_le b 90) upper).1)
    | inr lower ↦ omega (arith, leb-true b 122 (and_parts (nat_le 97 b) (nat_le b 122) lower).1)
  ]
  | inr underscore ↦ omega (arith, eqb-true b 95 underscore)
]

-- what a word begins with is no white space and no slash
is_other : ℕ → Bool
is_other b = not (is_word_start b) || not (is_whitespace b || (b == 47))

word_start_other : (b : ℕ) → is_word_start b ≡ true → (is_whitespace b || (b == 47)) ≡ false
unfolding is_other
word_start_other b starts =
    let e : is_other b ≡ true = agree_below_at is_other (λ _. true) 128 b refl (word_start_ascii b starts) in
    let f : not true || not (is_whitespace b || (b == 47)) ≡ true = subst (λ x. not x || not (is_whitespace b || (b == 47)) ≡ true) starts e in
    not-true (is_whitespace b || (b == 47)) f

plain_class : (b : ℕ) (bs : List ℕ) → is_word_start b ≡ true → class_of (b ∷ bs) ≡ 2
plain_class b bs starts =
    let o = or_parts (is_whitespace b) (b == 47) (word_start_other b starts) in
    let ascii : b < 128 = word_start_ascii b starts in
    rw (lt-leb 128 b ascii, o.0, o.1, starts) refl

word_class : (t : List ℕ) (n : ℕ) → IsWord t n → class_of t ≡ 2
word_class t n (IsWord.plain p) = ap class_of p.parts ∙ plain_class p.first p.after p.starts
word_class t _ (IsWord.marked after e p) = ap class_of e

string_class : (t : List ℕ) (n : ℕ) → IsString t n → class_of t ≡ 3
string_class t n s =
    ap class_of s.parts ∙ elim s.is_quote [
      | inl single ↦ ap (λ q. class_of (q ∷ (s.inside ++ s.quote ∷ s.after))) single
      | inr double ↦ ap (λ q. class_of (q ∷ (s.inside ++ s.quote ∷ s.after))) double
    ]

slash_class : (cs : List ℕ) → get_or cs 0 0 ≢ 42 → get_or cs 0 0 ≢ 47 → behind_slash cs ≡ 4
slash_class [] no_star no_slash = refl
slash_class (c ∷ cs) no_star no_slash = rw (ne_eqb c 47 no_slash, ne_eqb c 42 no_star) refl

regex_class : (t : List ℕ) (flags n : ℕ) → IsRegex t flags n → class_of t ≡ 4
regex_class t flags n r =
    let cs = (r.first ++ r.others) ++ 47 ∷ r.after in
    let b = (regex_parts t cs 47 flags n r.parts r).1 in
    ap class_of r.parts ∙ slash_class cs b.no_star b.no_slash

begins_head : (t : List ℕ) (a : ℕ) (needle : List ℕ) → BeginsSpelling t (a ∷ needle) → ((bs : List ℕ) → class_of (a ∷ bs) ≡ 5) → class_of t ≡ 5
begins_head [] a needle h f = let e : a ∷ needle ≡ [] = (bytes_eq-Decides (a ∷ needle) []).0 h in cc
begins_head (b ∷ bs) a needle h f =
    let e : a ∷ needle ≡ b ∷ take (length needle) bs = (bytes_eq-Decides (a ∷ needle) (b ∷ take (length needle) bs)).0 h in
    let same : a ≡ b = cc in
    subst (λ x. class_of (x ∷ bs) ≡ 5) same (f bs)

symbol_class : (t : List ℕ) (s : Symbol) → IsSymbol t s → class_of t ≡ 5
symbol_class t DotDot h = begins_head t 46 (46 ∷ []) h.begins (λ bs. refl)
symbol_class t PlusEquals h = begins_head t 43 (61 ∷ []) h.begins (λ bs. refl)
symbol_class t QuestionEquals h = begins_head t 63 (61 ∷ []) h.begins (λ bs. refl)
symbol_class t FatArrow h = begins_head t 61 (62 ∷ []) h.begins (λ bs. refl)
symbol_class t ThinArrow h = begins_head t 45 (62 ∷ []) h.begins (λ bs. refl)
symbol_class t Colon h = begins_head t 58 [] h.begins (λ bs. refl)
symbol_class t Semicolon h = begins_head t 59 [] h.begins (λ bs. refl)
symbol_class t Question h = begins_head t 63 [] h.begins (λ bs. refl)
symbol_class t Star h = begins_head t 42 [] h.begins (λ bs. refl)
symbol_class t Plus h = begins_head t 43 [] h.begins (λ bs. refl)
symbol_class t Bar h = begins_head t 124 [] h.begins (λ bs. refl)
symbol_class t OpenParenthesis h = begins_head t 40 [] h.begins (λ bs. refl)
symbol_class t CloseParenthesis h = begins_head t 41 [] h.begins (λ bs. refl)
symbol_class t OpenBracket h = begins_head t 91 [] h.begins (λ bs. refl)
symbol_class t CloseBracket h = begins_head t 93 [] h.begins (λ bs. refl)
symbol_class t OpenBrace h = begins_head t 123 [] h.begins (λ bs. refl)
symbol_class t CloseBrace h = begins_head t 125 [] h.begins (λ bs. refl)
symbol_class t Comma h = begins_head t 44 [] h.begins (λ bs. refl)
symbol_class t Dot h = begins_head t 46 [] h.begins (λ bs. refl)
symbol_class t At h = begins_head t 64 [] h.begins (λ bs. refl)
symbol_class t Equals h = begins_head t 61 [] h.begins (λ bs. refl)
symbol_class t Less h = begins_head t 60 [] h.begins (λ bs. refl)
symbol_class t Greater h = begins_head t 62 [] h.begins (λ bs. refl)
symbol_class t Ampersand h = begins_head t 38 [] h.begins (λ bs. refl)
symbol_class t Exclamation h = begins_head t 33 [] h.begins (λ bs. refl)

white_class : (t : List ℕ) (c : ℕ) → BeginsWith t c → is_whitespace c ≡ true → class_of t ≡ 1
white_class [] c p white = absurd (let h = some_begun [] c p in omega arith)
white_class (b ∷ bs) c p white = elim (cases_lt b 128) [
  | inl ascii ↦ rw (lt-leb 128 b ascii, subst (λ x. is_whitespace x ≡ true) (begins_byte (b ∷ bs) bs b c refl ascii p) white) refl
  | inr above ↦ rw (le-leb 128 b above) refl
]

hidden_class : (t : List ℕ) (n : ℕ) → IsHidden t n → class_of t ≡ 1
hidden_class t _ (IsHidden.white c p white) = white_class t c p white
hidden_class t _ (IsHidden.line_comment after e) = ap class_of e
hidden_class t _ (IsHidden.block_comment inside after e least) = ap class_of e

-- ---- one symbol

abbrev pub key : List ℕ → ℕ
key [] = 0
key (b ∷ bs) = b + 256 * key bs

abbrev pub symbol_of : ℕ → Symbol
symbol_of k =
    if k == 11822 then DotDot
    else if k == 15659 then PlusEquals
    else if k == 15679 then QuestionEquals
    else if k == 15933 then FatArrow
    else if k == 15917 then ThinArrow
    else if k == 58 then Colon
    else if k == 59 then Semicolon
    else if k == 63 then Question
    else if k == 42 then Star
    else if k == 43 then Plus
    else if k == 124 then Bar
    else if k == 40 then OpenParenthesis
    else if k == 41 then CloseParenthesis
    else if k == 91 then OpenBracket
    else if k == 93 then CloseBracket
    else if k == 123 then OpenBrace
    else if k == 125 then CloseBrace
    else if k == 44 then Comma
    else if k == 46 then Dot
    else if k == 64 then At
    else if k == 61 then Equals
    else if k == 60 then Less
    else if k == 62 then Greater
    else if k == 38 then Ampersand
    else Exclamation

pub symbol_of_spelling : (s : Symbol) → symbol_of (key (spelling s)) ≡ s
symbol_of_spelling DotDot = refl
symbol_of_spelling PlusEquals = refl
symbol_of_spelling QuestionEquals = refl
symbol_of_spelling FatArrow = refl
symbol_of_spelling ThinArrow = refl
symbol_of_spelling Colon = refl
symbol_of_spelling Semicolon = refl
symbol_of_spelling Question = refl
symbol_of_spelling Star = refl
symbol_of_spelling Plus = refl
symbol_of_spelling Bar = refl
symbol_of_spelling OpenParenthesis = refl
symbol_of_spelling CloseParenthesis = refl
symbol_of_spelling OpenBracket = refl
symbol_of_spelling CloseBracket = refl
symbol_of_spelling OpenBrace = refl
symbol_of_spelling CloseBrace = refl
symbol_of_spelling Comma = refl
symbol_of_spelling Dot = refl
symbol_of_spelling At = refl
symbol_of_spelling Equals = refl
symbol_of_spelling Less = refl
symbol_of_spelling Greater = refl
symbol_of_spelling Ampersand = refl
symbol_of_spelling Exclamation = refl

symbol_same : (t : List ℕ) (r s : Symbol) → IsSymbol t r → IsSymbol t s → r ≡ s
symbol_same t r s p q =
    let a : spelling r ≡ take (length (spelling r)) t = (bytes_eq-Decides (spelling r) (take (length (spelling r)) t)).0 p.begins in
    let b : spelling s ≡ take (length (spelling s)) t = (bytes_eq-Decides (spelling s) (take (length (spelling s)) t)).0 q.begins in
    let long : length (spelling r) ≡ length (spelling s) = omega (arith, p.longest s q.begins, q.longest r p.begins) in
    let e : spelling r ≡ spelling s = a ∙ ap (λ n. take n t) long ∙ sym b in
    sym (symbol_of_spelling r) ∙ ap (λ x. symbol_of (key x)) e ∙ symbol_of_spelling s

-- ---- one step

apart : (t : List ℕ) (i j : ℕ) → class_of t ≡ i → class_of t ≡ j → (i ≡ j → ⊥) → ⊥
apart t i j a b differ = differ (sym a ∙ b)

pub hidden_token : (t : List ℕ) (m n : ℕ) (k : FileKind) → IsHidden t m → IsFileToken t k n → ⊥
hidden_token t m n _ h (IsFileToken.word w) = apart t 1 2 (hidden_class t m h) (word_class t n w) (λ e. omega arith)
hidden_token t m n _ h (IsFileToken.string w) = apart t 1 3 (hidden_class t m h) (string_class t n w) (λ e. omega arith)
hidden_token t m n _ h (IsFileToken.regex {flags = f} w) = apart t 1 4 (hidden_class t m h) (regex_class t f n w) (λ e. omega arith)
hidden_token t m _ _ h (IsFileToken.symbol s w) = apart t 1 5 (hidden_class t m h) (symbol_class t s w) (λ e. omega arith)
hidden_token t m _ _ h (IsFileToken.other c p no_hidden no_word no_string no_regex no_symbol) = no_hidden m h

pub token_same : (t : List ℕ) (k l : FileKind) (m n : ℕ) → IsFileToken t k m → IsFileToken t l n → (k ≡ l) × (m ≡ n)
token_same t _ _ m n (IsFileToken.word a) (IsFileToken.word b) = (refl, word_same t m n a b)
token_same t _ _ m n (IsFileToken.word a) (IsFileToken.string b) = absurd (apart t 2 3 (word_class t m a) (string_class t n b) (λ e. omega arith))
token_same t _ _ m n (IsFileToken.word a) (IsFileToken.regex {flags = f} b) = absurd (apart t 2 4 (word_class t m a) (regex_class t f n b) (λ e. omega arith))
token_same t _ _ m _ (IsFileToken.word a) (IsFileToken.symbol s b) = absurd (apart t 2 5 (word_class t m a) (symbol_class t s b) (λ e. omega arith))
token_same t _ _ m _ (IsFileToken.word a) (IsFileToken.other c p no_hidden no_word no_string no_regex no_symbol) = absurd (no_word m a)
token_same t _ _ m n (IsFileToken.string a) (IsFileToken.word b) = absurd (apart t 3 2 (string_class t m a) (word_class t n b) (λ e. omega arith))
token_same t _ _ m n (IsFileToken.string a) (IsFileToken.string b) = (refl, string_same t m n a b)
token_same t _ _ m n (IsFileToken.string a) (IsFileToken.regex {flags = f} b) = absurd (apart t 3 4 (string_class t m a) (regex_class t f n b) (λ e. omega arith))
token_same t _ _ m _ (IsFileToken.string a) (IsFileToken.symbol s b) = absurd (apart t 3 5 (string_class t m a) (symbol_class t s b) (λ e. omega arith))
token_same t _ _ m _ (IsFileToken.string a) (IsFileToken.other c p no_hidden no_word no_string no_regex no_symbol) = absurd (no_string m a)
token_same t _ _ m n (IsFileToken.regex {flags = f} a) (IsFileToken.word b) = absurd (apart t 4 2 (regex_class t f m a) (word_class t n b) (λ e. omega arith))
token_same t _ _ m n (IsFileToken.regex {flags = f} a) (IsFileToken.string b) = absurd (apart t 4 3 (regex_class t f m a) (string_class t n b) (λ e. omega arith))
token_same t _ _ m n (IsFileToken.regex {flags = f} a) (IsFileToken.regex {flags = g} b) = let e = regex_same t f g m n a b in (ap kind.Regex e.0, e.1)
token_same t _ _ m _ (IsFileToken.regex {flags = f} a) (IsFileToken.symbol s b) = absurd (apart t 4 5 (regex_class t f m a) (symbol_class t s b) (λ e. omega arith))
token_same t _ _ m _ (IsFileToken.regex {flags = f} a) (IsFileToken.other c p no_hidden no_word no_string no_regex no_symbol) = absurd (no_regex f m a)
token_same t _ _ _ n (IsFileToken.symbol s a) (IsFileToken.word b) = absurd (apart t 5 2 (symbol_class t s a) (word_class t n b) (λ e. omega arith))
token_same t _ _ _ n (IsFileToken.symbol s a) (IsFileToken.string b) = absurd (apart t 5 3 (symbol_class t s a) (string_class t n b) (λ e. omega arith))
token_same t _ _ _ n (IsFileToken.symbol s a) (IsFileToken.regex {flags = f} b) = absurd (apart t 5 4 (symbol_class t s a) (regex_class t f n b) (λ e. omega arith))
token_same t _ _ _ _ (IsFileToken.symbol r a) (IsFileToken.symbol s b) = let e = symbol_same t r s a b in (ap kind.Symbol e, ap (λ x. length (spelling x)) e)
token_same t _ _ _ _ (IsFileToken.symbol s a) (IsFileToken.other c p no_hidden no_word no_string no_regex no_symbol) = absurd (no_symbol s a)
token_same t _ _ _ n (IsFileToken.other c p no_hidden no_word no_string no_regex no_symbol) (IsFileToken.word b) = absurd (no_word n b)
token_same t _ _ _ n (IsFileToken.other c p no_hidden no_word no_string no_regex no_symbol) (IsFileToken.string b) = absurd (no_string n b)
token_same t _ _ _ n (IsFileToken.other c p no_hidden no_word no_string no_regex no_symbol) (IsFileToken.regex {flags = f} b) = absurd (no_regex f n b)
token_same t _ _ _ _ (IsFileToken.other c p no_hidden no_word no_string no_regex no_symbol) (IsFileToken.symbol s b) = absurd (no_symbol s b)
token_same t _ _ _ _ (IsFileToken.other c p no_hidden no_word no_string no_regex no_symbol) (IsFileToken.other d q _ _ _ _ _) = (refl, ap (λ x. length (encode_utf8 x)) (begins_same t c d p q))

-- ---- what a slash does not begin

slash_class_is : (cs : List ℕ) → (class_of (47 ∷ cs) ≡ 1) ⊎ (class_of (47 ∷ cs) ≡ 4)
slash_class_is [] = inr refl
slash_class_is (c ∷ cs) = cases_cond ((c == 47) || (c == 42)) 1 4 (class_of (47 ∷ c ∷ cs)) refl

pub slash_no_word : (t cs : List ℕ) → t ≡ 47 ∷ cs → (n : ℕ) → ¬ IsWord t n
slash_no_word t cs e n w = elim (slash_class_is cs) [
  | inl one ↦ apart t 1 2 (ap class_of e ∙ one) (word_class t n w) (λ h. omega arith)
  | inr four ↦ apart t 4 2 (ap class_of e ∙ four) (word_class t n w) (λ h. omega arith)
]

pub slash_no_symbol : (t cs : List ℕ) → t ≡ 47 ∷ cs → (s : Symbol) → ¬ IsSymbol t s
slash_no_symbol t cs e s w = elim (slash_class_is cs) [
  | inl one ↦ apart t 1 5 (ap class_of e ∙ one) (symbol_class t s w) (λ h. omega arith)
  | inr four ↦ apart t 4 5 (ap class_of e ∙ four) (symbol_class t s w) (λ h. omega arith)
]
