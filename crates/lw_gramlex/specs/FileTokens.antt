-- The tokens of a grammar file, each by the form that the text before it has to have. In bytes: ' is 39, " is 34, * is 42,
-- / is 47, [ is 91, \ is 92, ] is 93, ^ is 94, _ is 95, a line feed is 10, a carriage return 13.
-- Held against the Langium documentation, "Grammar language", whose grammar files these are a stated part of.
use Rattle.std.specs.Prelude.{ℕ, ◌≡◌, ◌≢◌, ◌+◌, ◌<◌, ◌⊎◌, ◌||◌, ◌==◌, List, [], ◌∷◌, ◌++◌, Bool, not, true, false, length, drop, codes, encode_utf8, take_while}
use Rattle.std.specs.Char.{IsScalar, is_whitespace, is_ascii_alphabetic, is_ascii_alphanumeric, is_ascii_lowercase}
use Rattle.lw_gramlex.specs.declared.token.Symbol.{Symbol}
use Rattle.lw_gramlex.specs.declared.token.FileKind.{FileKind}
use Rattle.lw_gramlex.specs.declared.token.FileKind.TheVariants as kind
use Rattle.lw_gramlex.specs.Symbols.{BeginsSpelling, IsSymbol, spelling}

-- ---- what is passed over

abbrev pub is_line_end : ℕ → Bool
is_line_end c = (c == 10) || (c == 13)

-- the text begins with this character
pub record BeginsWith (text : List ℕ) (c : ℕ) : Type 0 where
  pub scalar : IsScalar c
  pub after : List ℕ
  pub parts : text ≡ encode_utf8 c ++ after

-- the first n bytes are passed over: one character of white space, or one comment
pub data IsHidden (text : List ℕ) : ℕ → Type 0 where
  white : (c : ℕ) → BeginsWith text c → is_whitespace c ≡ true → IsHidden text (length (encode_utf8 c))
  -- up to before the end of the line
  line_comment : (after : List ℕ) → text ≡ codes "//" ++ after → IsHidden text (2 + length (take_while (λ c. not (is_line_end c)) after))
  -- up to the first `*/`
  block_comment : (inside after : List ℕ) → text ≡ codes "/*" ++ inside ++ codes "*/" ++ after →
      ((j : ℕ) → j < length inside → ¬ BeginsSpelling (drop j (inside ++ codes "*/")) (codes "*/")) → IsHidden text (length inside + 4)

-- ---- words

abbrev pub is_word_start : ℕ → Bool
is_word_start c = is_ascii_alphabetic c || (c == 95)

abbrev pub is_word_part : ℕ → Bool
is_word_part c = is_ascii_alphanumeric c || (c == 95)

-- an ASCII letter or `_`, then as many ASCII letters, digits and `_` as there are
pub record IsPlainWord (text : List ℕ) (n : ℕ) : Type 0 where
  pub first : ℕ
  pub after : List ℕ
  pub parts : text ≡ first ∷ after
  pub starts : is_word_start first ≡ true
  pub bytes : n ≡ 1 + length (take_while is_word_part after)

-- the same behind a `^`, which makes any word a name
pub data IsWord (text : List ℕ) : ℕ → Type 0 where
  plain : {n : ℕ} → IsPlainWord text n → IsWord text n
  marked : {n : ℕ} (after : List ℕ) → text ≡ 94 ∷ after → IsPlainWord after n → IsWord text (1 + n)

-- ---- strings

-- what stands between the quotes q: characters other than q and `\`, and pairs of `\` and any character but a line feed
pub data IsInside (q : ℕ) : List ℕ → Type 0 where
  done : IsInside q []
  one : {c : ℕ} {cs : List ℕ} → c ≢ q → c ≢ 92 → IsInside q cs → IsInside q (c ∷ cs)
  pair : {c : ℕ} {cs : List ℕ} → c ≢ 10 → IsInside q cs → IsInside q (92 ∷ c ∷ cs)

pub record IsString (text : List ℕ) (n : ℕ) : Type 0 where
  pub quote : ℕ
  pub is_quote : (quote ≡ 39) ⊎ (quote ≡ 34)
  pub inside : List ℕ
  pub after : List ℕ
  pub parts : text ≡ quote ∷ inside ++ quote ∷ after
  pub within : IsInside quote inside
  pub bytes : n ≡ length inside + 2

-- ---- regular expressions

abbrev pub NoLineEnd : ℕ → Type 0
NoLineEnd c = is_line_end c ≡ false

-- what stands between the brackets of a class: characters but line ends, `]` and `\`, and pairs of `\` and any character but a line end
pub data IsClassInside : List ℕ → Type 0 where
  done : IsClassInside []
  one : {c : ℕ} {cs : List ℕ} → NoLineEnd c → c ≢ 93 → c ≢ 92 → IsClassInside cs → IsClassInside (c ∷ cs)
  pair : {c : ℕ} {cs : List ℕ} → NoLineEnd c → IsClassInside cs → IsClassInside (92 ∷ c ∷ cs)

-- one part: a character but a line end, `[`, `/` and `\`; a pair of `\` and any character but a line end; or a class
pub data IsRegexPart : List ℕ → Type 0 where
  one : {c : ℕ} → NoLineEnd c → c ≢ 91 → c ≢ 47 → c ≢ 92 → IsRegexPart (c ∷ [])
  pair : {c : ℕ} → NoLineEnd c → IsRegexPart (92 ∷ c ∷ [])
  class : {cs : List ℕ} → IsClassInside cs → IsRegexPart (91 ∷ cs ++ 93 ∷ [])

pub data AreRegexParts : List ℕ → Type 0 where
  none : AreRegexParts []
  more : {part parts : List ℕ} → IsRegexPart part → AreRegexParts parts → AreRegexParts (part ++ parts)

-- the first n bytes are parts, and the slash that closes them follows
pub record AreClosed (text : List ℕ) (n : ℕ) : Type 0 where
  pub body : List ℕ
  pub after : List ℕ
  pub parts : text ≡ body ++ 47 ∷ after
  pub are_parts : AreRegexParts body
  pub bytes : n ≡ length body

-- `/`, a part that is not `*`, further parts, `/`, and as many lower-case ASCII letters, the flags, as there are
pub record IsRegex (text : List ℕ) (flags n : ℕ) : Type 0 where
  pub first : List ℕ
  pub others : List ℕ
  pub after : List ℕ
  pub parts : text ≡ 47 ∷ first ++ others ++ 47 ∷ after
  pub is_part : IsRegexPart first
  pub no_star : first ≢ 42 ∷ []
  pub are_parts : AreRegexParts others
  pub count : flags ≡ length (take_while is_ascii_lowercase after)
  pub bytes : n ≡ length first + length others + 2 + flags

-- ---- any token

-- the first n bytes of the text are a token of this kind
pub data IsFileToken (text : List ℕ) : FileKind → ℕ → Type 0 where
  word : {n : ℕ} → IsWord text n → IsFileToken text kind.Word n
  string : {n : ℕ} → IsString text n → IsFileToken text kind.Text n
  regex : {flags n : ℕ} → IsRegex text flags n → IsFileToken text (kind.Regex flags) n
  symbol : (s : Symbol) → IsSymbol text s → IsFileToken text (kind.Symbol s) (length (spelling s))
  -- where nothing else stands, one character that can follow nowhere
  other : (c : ℕ) → BeginsWith text c → ((n : ℕ) → ¬ IsHidden text n) → ((n : ℕ) → ¬ IsWord text n) → ((n : ℕ) → ¬ IsString text n) →
      ((flags n : ℕ) → ¬ IsRegex text flags n) → ((s : Symbol) → ¬ IsSymbol text s) → IsFileToken text kind.Other (length (encode_utf8 c))
