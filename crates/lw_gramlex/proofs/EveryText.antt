-- Every text has a cut: at each of its places a stretch that is passed over stands, or a token.
use Rattle.std.proofs.Common.{◌≡◌, ◌≢◌, ◌⊎◌, ◌<◌, ◌≤◌, ℕ, zero, suc, ◌+◌, List, [], ◌∷◌, ◌++◌, length, take, drop, get_or, take_while, true, false, Option, Some, None, refl, sym, ap, ◌∙◌, subst, inl, inr, arith, length-drop, nat_eq, IsUtf8, encode_utf8}
use Rattle.std.specs.List.{starts_with}
use Rattle.std.specs.Char.{is_whitespace, is_ascii_lowercase}
use Rattle.std.proofs.Math.Utf8.{encodes}
use Rattle.std.proofs.Math.ListN.{drop_of_length-le}
use Rattle.std.proofs.lemmas.Str.{IsUtf8-drop}
use Rattle.std.proofs.lemmas.Bool.{both_ways, cases_Bool, cases_eq, cases_lt, and_parts}
use Rattle.std.proofs.lemmas.Slice.Eq.{bytes_eq-Decides}
use Rattle.lw_gramlex.specs.declared.token.Symbol.{Symbol}
use Rattle.lw_gramlex.specs.declared.token.FileKind.{FileKind}
use Rattle.lw_gramlex.specs.declared.token.FileKind.TheVariants as kind
use Rattle.lw_gramlex.specs.declared.token.FileToken.{FileToken}
use Rattle.lw_gramlex.specs.Symbols.{BeginsSpelling, IsSymbol, spelling}
use Rattle.lw_gramlex.specs.FileTokens.{BeginsWith, IsHidden, IsPlainWord, IsWord, IsString, IsRegex, AreClosed, IsFileToken, is_word_start, is_word_part}
use Rattle.lw_gramlex.specs.FileCut.{IsFileCutTo, IsFileCut}
use Rattle.lw_gramlex.proofs.HiddenLemmas.{hidden_none, hidden_block, opened_same}
use Rattle.lw_gramlex.proofs.WordLemmas.{word_none_marked, word_none_plain}
use Rattle.lw_gramlex.proofs.StringLemmas.{inside_end, string_none, string_none_other, string_some}
use Rattle.lw_gramlex.proofs.RegexLemmas.{body_end, closed_none, closed_some, regex_none_open, regex_none_bare, regex_none_star, regex_parts, regex_some}
use Rattle.lw_gramlex.proofs.StepLemmas.{key, symbol_of, symbol_of_spelling}
use Rattle.lw_gramlex.proofs.PlaceLemmas.{is_short, symbol_short}
use Rattle.lw_gramlex.proofs.CutLemmas.{placed, hidden_step, token_step, token_from}

-- one of these stands there, or none does
abbrev IsFound : {X : Type 0} → (X → Type 0) → Type 0
IsFound {X} P = ((x : X) × P x) ⊎ ((x : X) → ¬ P x)

cases_Option : (o : Option ℕ) → (o ≡ None) ⊎ ((n : ℕ) × (o ≡ Some n))
cases_Option None = inl refl
cases_Option (Some n) = inr (n, refl)

-- ---- white space and comments

-- a text begins with these two bytes or not
begins_two : (t : List ℕ) (a b : ℕ) → IsFound (λ r. t ≡ a ∷ b ∷ r)
begins_two [] a b = inr (λ r e. cc)
begins_two (x ∷ []) a b = inr (λ r e. cc)
begins_two (x ∷ y ∷ ys) a b = elim (cases_eq x a) [
  | inr apart ↦ inr (λ r e. apart (ap (λ z. get_or z 0 0) e))
  | inl same ↦ elim (cases_eq y b) [
    | inr apart ↦ inr (λ r e. apart (ap (λ z. get_or z 1 0) e))
    | inl also ↦ inl (ys, rw (same, also) refl)
  ]
]

abbrev HasNoEndAt : List ℕ → ℕ → Type 0
HasNoEndAt t k = (r : List ℕ) → drop k t ≢ 42 ∷ 47 ∷ r

-- the first `*/` of a text, or that it has none
data HasEnd (t : List ℕ) : Type 0 where
  first : (i : ℕ) (r : List ℕ) → i ≤ length t → drop i t ≡ 42 ∷ 47 ∷ r → ((k : ℕ) → k < i → HasNoEndAt t k) → HasEnd t
  none : ((k : ℕ) → k ≤ length t → HasNoEndAt t k) → HasEnd t

-- what has no end at its front and none behind it has none
none_behind : (x : ℕ) (xs : List ℕ) (n : ℕ) → HasNoEndAt (x ∷ xs) 0 → ((k : ℕ) → k < n → HasNoEndAt xs k) → (k : ℕ) → k < suc n → HasNoEndAt (x ∷ xs) k
none_behind x xs n here behind zero within = here
none_behind x xs n here behind (suc k) within = behind k (omega arith)

longer_end : (x : ℕ) (xs : List ℕ) → HasNoEndAt (x ∷ xs) 0 → HasEnd xs → HasEnd (x ∷ xs)
longer_end x xs here (HasEnd.first i r within ends least) = HasEnd.first (suc i) r (omega arith) ends (none_behind x xs i here least)
longer_end x xs here (HasEnd.none nowhere) =
    HasEnd.none (λ k within. none_behind x xs (suc (length xs)) here (λ j le. nowhere j (omega arith)) k (omega arith))

none_in_nothing : (k : ℕ) → k ≤ 0 → HasNoEndAt [] k
none_in_nothing k within r e =
    let nothing : ◌≡◌ {A = List ℕ} [] (42 ∷ 47 ∷ r) = sym (drop_of_length-le [] (omega arith)) ∙ e in
    cc

first_end : (t : List ℕ) → HasEnd t
first_end [] = HasEnd.none none_in_nothing
first_end (x ∷ xs) = elim (begins_two (x ∷ xs) 42 47) [
  | inl ends ↦ HasEnd.first 0 ends.0 (omega arith) ends.1 (λ k within. absurd (omega arith))
  | inr here ↦ longer_end x xs here (first_end xs)
]

block_or_none : (t after : List ℕ) (c : ℕ) → BeginsWith t c → is_whitespace c ≡ false → ((r : List ℕ) → t ≢ 47 ∷ 47 ∷ r) → t ≡ 47 ∷ 42 ∷ after → HasEnd after →
    IsFound (IsHidden t)
block_or_none t after c begun not_white no_line opened (HasEnd.first i r within ends least) = inl (i + 4, hidden_block t after r i opened within ends least)
block_or_none t after c begun not_white no_line opened (HasEnd.none nowhere) =
    inr (hidden_none t c begun not_white no_line (λ rest e. subst (λ x. (i : ℕ) → i ≤ length x → HasNoEndAt x i) (opened_same t after rest opened e) nowhere))

hidden_or_none : (t : List ℕ) (c : ℕ) → BeginsWith t c → IsFound (IsHidden t)
hidden_or_none t c begun = elim (cases_Bool (is_whitespace c)) [
  | inl white ↦ inl (length (encode_utf8 c), IsHidden.white c begun white)
  | inr not_white ↦ elim (begins_two t 47 47) [
    | inl line ↦ inl (_, IsHidden.line_comment line.0 line.1)
    | inr no_line ↦ elim (begins_two t 47 42) [
      | inl block ↦ block_or_none t block.0 c begun not_white no_line block.1 (first_end block.0)
      | inr no_block ↦ inr (hidden_none t c begun not_white no_line (λ rest e. absurd (no_block rest e)))
    ]
  ]
]

-- ---- words

plain_or_none : (t : List ℕ) → IsFound (IsPlainWord t)
plain_or_none [] = inr (λ n p. let e : [] ≡ p.first ∷ p.after = p.parts in cc)
plain_or_none (c ∷ cs) = elim (cases_Bool (is_word_start c)) [
  | inl starts ↦ inl (1 + length (take_while is_word_part cs), record { first = c; after = cs; parts = refl; starts = starts; bytes = refl })
  | inr no_start ↦
      inr (λ n p. let same : c ≡ p.first = (let e : c ∷ cs ≡ p.first ∷ p.after = p.parts in cc) in both_ways (is_word_start c) no_start (ap is_word_start same ∙ p.starts))
]

word_or_none : (c : ℕ) (cs : List ℕ) → IsFound (IsWord (c ∷ cs))
word_or_none c cs = elim (cases_eq c 94) [
  | inl mark ↦ elim (plain_or_none cs) [
    | inl word ↦ inl (1 + word.0, IsWord.marked cs (ap (λ x. x ∷ cs) mark) word.1)
    | inr no_word ↦ inr (word_none_marked (c ∷ cs) cs (ap (λ x. x ∷ cs) mark) no_word)
  ]
  | inr no_mark ↦ elim (plain_or_none (c ∷ cs)) [
    | inl word ↦ inl (word.0, IsWord.plain word.1)
    | inr no_word ↦ inr (word_none_plain (c ∷ cs) cs c refl no_mark no_word)
  ]
]

-- ---- strings

quoted_or_none : (c : ℕ) (cs : List ℕ) → (c ≡ 39) ⊎ (c ≡ 34) → IsFound (IsString (c ∷ cs))
quoted_or_none c cs is_quote = elim (cases_Option (inside_end c 0 false cs)) [
  | inl opened ↦ inr (string_none (c ∷ cs) cs c refl opened)
  | inr closed ↦ inl (closed.0 + 2, string_some (c ∷ cs) cs c closed.0 refl is_quote closed.1)
]

string_or_none : (c : ℕ) (cs : List ℕ) → IsFound (IsString (c ∷ cs))
string_or_none c cs = elim (cases_eq c 39) [
  | inl single ↦ quoted_or_none c cs (inl single)
  | inr not_single ↦ elim (cases_eq c 34) [
    | inl double ↦ quoted_or_none c cs (inr double)
    | inr not_double ↦ inr (string_none_other (c ∷ cs) cs c refl not_single not_double)
  ]
]

-- ---- regular expressions

closed_or_none : (c : ℕ) (cs : List ℕ) (m : ℕ) → c ≡ 47 → body_end 0 false false cs ≡ Some m →
    ((flags n : ℕ) × IsRegex (c ∷ cs) flags n) ⊎ ((flags n : ℕ) → ¬ IsRegex (c ∷ cs) flags n)
closed_or_none c cs m slash ends = elim (cases_eq m 0) [
  | inl bare ↦ inr (regex_none_bare (c ∷ cs) cs c m refl closed bare)
  | inr some ↦ elim (cases_eq (get_or cs 0 0) 42) [
    | inl star ↦ inr (regex_none_star (c ∷ cs) cs c refl star)
    | inr no_star ↦ inl (flags, m + 2 + flags, regex_some (c ∷ cs) cs c m refl slash closed some no_star flags (m + 2 + flags) refl refl)
  ]
]
  where
    closed : AreClosed cs m
    closed = closed_some cs m ends

    flags : ℕ
    flags = length (take_while is_ascii_lowercase (drop (m + 1) cs))

regex_or_none : (c : ℕ) (cs : List ℕ) → ((flags n : ℕ) × IsRegex (c ∷ cs) flags n) ⊎ ((flags n : ℕ) → ¬ IsRegex (c ∷ cs) flags n)
regex_or_none c cs = elim (cases_eq c 47) [
  | inr no_slash ↦ inr (λ flags n r. no_slash (regex_parts (c ∷ cs) cs c flags n refl r).0)
  | inl slash ↦ elim (cases_Option (body_end 0 false false cs)) [
    | inl opened ↦ inr (regex_none_open (c ∷ cs) cs c refl (closed_none cs opened))
    | inr closed ↦ closed_or_none c cs closed.0 slash closed.1
  ]
]

-- ---- symbols

-- a symbol of n bytes with which the text begins, or that there is none
sized_or_none : (t : List ℕ) (n : ℕ) → IsFound (λ s. BeginsSpelling t (spelling s) × (length (spelling s) ≡ n))
sized_or_none t n = elim (cases_eq (length (spelling s)) n) [
  | inr other ↦ inr (λ o is. other (ap (λ x. length (spelling x)) (same o is.0 is.1) ∙ is.1))
  | inl size ↦ elim (cases_Bool (starts_with nat_eq t (spelling s))) [
    | inl begins ↦ inl (s, (begins, size))
    | inr not_begun ↦ inr (λ o is. both_ways (starts_with nat_eq t (spelling s)) not_begun (subst (λ x. BeginsSpelling t (spelling x)) (sym (same o is.0 is.1)) is.0))
  ]
]
  where
    s : Symbol
    s = symbol_of (key (take n t))

    same : (o : Symbol) → BeginsSpelling t (spelling o) → length (spelling o) ≡ n → s ≡ o
    same o begins size =
        let front : spelling o ≡ take (length (spelling o)) t = (bytes_eq-Decides (spelling o) (take (length (spelling o)) t)).0 begins in
        ap (λ x. symbol_of (key x)) (ap (λ k. take k t) (sym size) ∙ sym front) ∙ symbol_of_spelling o

one_or_two : (bytes : List ℕ) → is_short bytes ≡ true → (length bytes ≡ 1) ⊎ (length bytes ≡ 2)
one_or_two [] short = cc
one_or_two (a ∷ []) short = inl refl
one_or_two (a ∷ b ∷ []) short = inr refl
one_or_two (a ∷ b ∷ c ∷ cs) short = cc

symbol_or_none : (t : List ℕ) → IsFound (IsSymbol t)
symbol_or_none t = elim (sized_or_none t 2) [
  | inl long ↦ inl (long.0, record { begins = long.1.0; longest = λ o begins. elim (sizes o) [ inl one ↦ omega (arith, one, long.1.1) | inr two ↦ omega (arith, two, long.1.1) ] })
  | inr no_long ↦ elim (sized_or_none t 1) [
    | inl short ↦ inl (short.0, record { begins = short.1.0; longest = λ o begins. elim (sizes o) [ inl one ↦ omega (arith, one, short.1.1) | inr two ↦ absurd (no_long o (begins, two)) ] })
    | inr no_short ↦ inr (λ s is. elim (sizes s) [ inl one ↦ no_short s (is.begins, one) | inr two ↦ no_long s (is.begins, two) ])
  ]
]
  where
    sizes : (s : Symbol) → (length (spelling s) ≡ 1) ⊎ (length (spelling s) ≡ 2)
    sizes s = one_or_two (spelling s) (symbol_short s)

-- ---- any place

-- what stands at the front of a text
data Stands (t : List ℕ) : Type 0 where
  hidden : (n : ℕ) → IsHidden t n → Stands t
  token : (kind : FileKind) (n : ℕ) → IsFileToken t kind n → Stands t

first_character : (t : List ℕ) → IsUtf8 t → 0 < length t → (c : ℕ) × BeginsWith t c
first_character t ([], u) some = absurd (omega (arith, ap length u.1))
first_character t (c ∷ cs, u) some = (c, record { scalar = (and_parts _ _ u.0).0; after = encodes cs; parts = sym u.1 })

stands : (t : List ℕ) → IsUtf8 t → 0 < length t → Stands t
stands [] utf8 some = absurd (omega arith)
stands (b ∷ bs) utf8 some = elim (hidden_or_none t first.0 first.1) [
  | inl stretch ↦ Stands.hidden stretch.0 stretch.1
  | inr no_hidden ↦ elim (word_or_none b bs) [
    | inl word ↦ Stands.token kind.Word word.0 (IsFileToken.word word.1)
    | inr no_word ↦ elim (string_or_none b bs) [
      | inl string ↦ Stands.token kind.Text string.0 (IsFileToken.string string.1)
      | inr no_string ↦ elim (regex_or_none b bs) [
        | inl regex ↦ Stands.token (kind.Regex regex.0) regex.1 (IsFileToken.regex regex.2)
        | inr no_regex ↦ elim (symbol_or_none t) [
          | inl symbol ↦ Stands.token (kind.Symbol symbol.0) (length (spelling symbol.0)) (IsFileToken.symbol symbol.0 symbol.1)
          | inr no_symbol ↦ Stands.token kind.Other (length (encode_utf8 first.0)) (IsFileToken.other first.0 first.1 no_hidden no_word no_string no_regex no_symbol)
        ]
      ]
    ]
  ]
]
  where
    t : List ℕ
    t = b ∷ bs

    first : (c : ℕ) × BeginsWith t c
    first = first_character t utf8 some

-- ---- the whole text

module _ (text : List ℕ) (utf8 : IsUtf8 text) where
  -- a cut that goes on behind a place
  record GoesOn (at : ℕ) : Type 0 where
    pub end : ℕ
    pub tokens : List FileToken
    pub behind : at < end
    pub cut : IsFileCutTo text end tokens

  next : (at : ℕ) (tokens : List FileToken) → IsFileCutTo text at tokens → at < length text → Stands (drop at text) → GoesOn at
  next at tokens cut within (Stands.hidden n is) =
      let step = hidden_step text at n (drop at text) utf8 within (placed text at tokens utf8 cut).ends refl is in
      record { end = at + n; tokens = tokens; behind = omega (arith, step.some); cut = IsFileCutTo.passed cut within is }
  next at tokens cut within (Stands.token kind n is) =
      let step = token_step text at n kind (drop at text) utf8 within (placed text at tokens utf8 cut).ends refl is in
      record { end = at + n; tokens = tokens ++ token_from at n kind ∷ []; behind = omega (arith, step.some); cut = IsFileCutTo.then cut within is }

  at_end : (at : ℕ) (tokens : List FileToken) → IsFileCutTo text at tokens → length text ≤ at → IsFileCut text tokens
  at_end at tokens cut over =
      let same : at ≡ length text = omega (arith, (placed text at tokens utf8 cut).ends.0) in
      subst (λ n. IsFileCutTo text n tokens) same cut

  -- a cut up to a place, behind which no more than so many bytes are left, goes on to the end
  to_end : (left at : ℕ) (tokens : List FileToken) → IsFileCutTo text at tokens → length text ≤ at + left → (all : List FileToken) × IsFileCut text all
  to_end zero at tokens cut enough = (tokens, at_end at tokens cut (omega arith))
  to_end (suc left) at tokens cut enough = elim (cases_lt at (length text)) [
    | inr over ↦ (tokens, at_end at tokens cut over)
    | inl within ↦
        let rest : IsUtf8 (drop at text) = IsUtf8-drop text at utf8 (placed text at tokens utf8 cut).ends in
        let on = next at tokens cut within (stands (drop at text) rest (omega (arith, length-drop at text))) in
        to_end left on.end on.tokens on.cut (omega (arith, on.behind))
  ]

  pub whole_cut : (tokens : List FileToken) × IsFileCut text tokens
  whole_cut = to_end (length text) 0 [] IsFileCutTo.start (omega arith)
