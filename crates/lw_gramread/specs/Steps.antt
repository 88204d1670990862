-- The steps by which a grammar file's tokens are read, and how they are joined. This is the reader's own way through a file: what it
-- comes to is said by `Syntax.antt` and the files that it names.
use Rattle.std.specs.Prelude.{◌≡◌, ◌≢◌, ℕ, zero, suc, Bool, true, false, if◌then◌else◌, List, [], ◌∷◌, ◌++◌, length, drop, Option, Some, None, is_some, Result, Ok, Err}
use denote.Enum.Bare.{sameb}
use Rattle.lw_base.specs.declared.token.Span.{Span}
use Rattle.lw_grammar.specs.declared.terminal.Primitive.{Primitive}
use Rattle.lw_grammar.specs.declared.rule.Op.{Op}
use Rattle.lw_grammar.specs.declared.rule.Op.TheVariants as op
use Rattle.lw_gramlex.specs.declared.token.Symbol.{Symbol}
use Rattle.lw_gramlex.specs.declared.token.Symbol.TheVariants as sign
use Rattle.lw_gramlex.specs.contracts.token.Symbol as the_symbol
use Rattle.lw_gramread.specs.declared.lexeme.Reserved.{Reserved}
use Rattle.lw_gramread.specs.contracts.lexeme.Reserved as the_reserved
use Rattle.lw_gramread.specs.declared.lexeme.Lexeme.{Lexeme}
use Rattle.lw_gramread.specs.declared.lexeme.Lexeme.TheVariants.{Word, Text, Regex, Sign}
use Rattle.lw_gramread.specs.declared.reader.left.Spot.{Spot}
use Rattle.lw_gramread.specs.declared.reader.left.Stop.{Stop}
use Rattle.lw_gramread.specs.declared.reader.left.Stop.TheVariants.{Unexpected, NoMemory}
use Rattle.lw_gramread.specs.Lexemes.{primitive_of}

-- ---- readers: what was read and what is left, or why reading stopped and where

abbrev pub Outcome : Type 0 → Type 0
Outcome A = Result (A × List Lexeme) (Stop × List Lexeme)

abbrev pub Reading : Type 0 → Type 0
Reading A = List Lexeme → Outcome A

abbrev pub and_then : {A B : Type 0} → Outcome A → (A → Reading B) → Outcome B
and_then (Ok p) f = f p.0 p.1
and_then (Err e) f = Err e

infixl 10 ◌>>=◌
abbrev pub ◌>>=◌ : {A B : Type 0} → Reading A → (A → Reading B) → Reading B
p >>= f = λ ts. and_then (p ts) f

infixl 10 ◌>>◌
abbrev pub ◌>>◌ : {A B : Type 0} → Reading A → Reading B → Reading B
p >> q = p >>= (λ _. q)

abbrev pub pure : {A : Type 0} → A → Reading A
pure a = λ ts. Ok (a, ts)

abbrev pub refuse : {A : Type 0} → Spot → Reading A
refuse spot = λ ts. Err (Unexpected spot, ts)

-- what a function of the code that reads ensures: this outcome, unless memory is refused
abbrev pub ReadsAs : {A : Type 0} → Outcome A → Result A Stop → List Lexeme → Type 0
ReadsAs read (Ok a) left = read ≡ Ok (a, left)
ReadsAs read (Err stop) left = stop ≢ NoMemory → read ≡ Err (stop, left)

-- ---- one token

unfoldable pub same_symbol : Symbol → Symbol → Bool
same_symbol = sameb the_symbol.the_type

unfoldable pub same_reserved : Reserved → Reserved → Bool
same_reserved = sameb the_reserved.the_type

abbrev pub sees : Symbol → List Lexeme → Bool
sees x (Sign y s ∷ ts) = same_symbol y x
sees x ts = false

abbrev pub sees_reserved : Reserved → List Lexeme → Bool
sees_reserved r (Word n (Some q) s ∷ ts) = same_reserved q r
sees_reserved r ts = false

abbrev pub sees_word : List Lexeme → Bool
sees_word (Word n r s ∷ ts) = true
sees_word ts = false

abbrev pub sees_name : List Lexeme → Bool
sees_name (Word n None s ∷ ts) = true
sees_name ts = false

abbrev pub sees_text : List Lexeme → Bool
sees_text (Text v s ∷ ts) = true
sees_text ts = false

abbrev pub sees_regex : List Lexeme → Bool
sees_regex (Regex p s ∷ ts) = true
sees_regex ts = false

abbrev pub next_operator : List Lexeme → Option Op
next_operator (Sign sign.Equals s ∷ ts) = Some op.One
next_operator (Sign sign.PlusEquals s ∷ ts) = Some op.Add
next_operator (Sign sign.QuestionEquals s ∷ ts) = Some op.Flag
next_operator ts = None

abbrev pub next_primitive : List Lexeme → Option Primitive
next_primitive (Word n (Some r) s ∷ ts) = primitive_of r
next_primitive ts = None

abbrev pub sees_primitive : List Lexeme → Bool
sees_primitive ts = is_some (next_primitive ts)

abbrev pub skip : Reading (Unit {0})
skip = λ ts. Ok (tt, drop 1 ts)

-- takes the symbol, if it comes next
abbrev pub takes : Symbol → Reading Bool
takes x = λ ts. Ok (sees x ts, if sees x ts then drop 1 ts else ts)

abbrev pub takes_reserved : Reserved → Reading Bool
takes_reserved r = λ ts. Ok (sees_reserved r ts, if sees_reserved r ts then drop 1 ts else ts)

unfoldable pub symbol : Symbol → Spot → Reading Span
symbol x spot (Sign y s ∷ ts) = if same_symbol y x then Ok (s, ts) else refuse spot (Sign y s ∷ ts)
symbol x spot ts = refuse spot ts

unfoldable pub reserved : Reserved → Spot → Reading (Unit {0})
reserved r spot = λ ts. if sees_reserved r ts then Ok (tt, drop 1 ts) else refuse spot ts

unfoldable pub free_word : Spot → Reading (List ℕ × Span)
free_word spot (Word n None s ∷ ts) = Ok ((n, s), ts)
free_word spot ts = refuse spot ts

unfoldable pub feature : Spot → Reading (List ℕ × Span)
feature spot (Word n r s ∷ ts) = Ok ((n, s), ts)
feature spot ts = refuse spot ts

unfoldable pub text : Spot → Reading (List ℕ × Span)
text spot (Text v s ∷ ts) = Ok ((v, s), ts)
text spot ts = refuse spot ts

unfoldable pub regex : Spot → Reading (List ℕ × Span)
regex spot (Regex p s ∷ ts) = Ok ((p, s), ts)
regex spot ts = refuse spot ts

abbrev pub this_primitive : Spot → Option Primitive → Reading Primitive
this_primitive spot (Some p) = skip >> pure p
this_primitive spot None = refuse spot

unfoldable pub primitive : Spot → Reading Primitive
primitive spot = λ ts. this_primitive spot (next_primitive ts) ts

-- ---- as many as there are. The number bounds the turns, and each turn takes a token, so how many are left is enough.

module _ {A : Type 0} (goes_on : List Lexeme → Bool) (item : Reading (List A)) where
  unfoldable pub gathered : ℕ → Reading (List A)
  gathered zero = pure []
  gathered (suc n) = λ ts. if goes_on ts then (do first ← item; others ← gathered n; pure (first ++ others)) ts else Ok ([], ts)

  unfoldable pub all_of : Reading (List A)
  all_of = λ ts. gathered (length ts) ts

-- a list of the one that is read
abbrev pub one : {A : Type 0} → Reading A → Reading (List A)
one item = item >>= (λ x. pure (x ∷ []))

-- what was read before, and what is read behind it
abbrev pub behind : {A : Type 0} → List A → Reading (List A) → Reading (List A)
behind front reader = reader >>= (λ more. pure (front ++ more))

-- one, and further ones while they go on
abbrev pub first_and : {A : Type 0} → (List Lexeme → Bool) → Reading (List A) → Reading A → Reading (List A)
first_and goes_on more item = item >>= (λ first. behind (first ∷ []) (all_of goes_on more))

-- one, and further ones behind the symbol
abbrev pub separated : {A : Type 0} → Symbol → Reading A → Reading (List A)
separated x item = first_and (sees x) (skip >> one item) item
