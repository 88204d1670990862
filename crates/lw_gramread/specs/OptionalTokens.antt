-- Tokens that may be left out: `x?` in a rule of the syntax. The tokens `ts` are read up to `rest`.
use Rattle.std.specs.Prelude.{ℕ, List, ◌∷◌, Bool, true, false, Some}
use Rattle.lw_base.specs.declared.token.Span.{Span}
use Rattle.lw_gramlex.specs.declared.token.Symbol.{Symbol}
use Rattle.lw_gramread.specs.declared.lexeme.Reserved.{Reserved}
use Rattle.lw_gramread.specs.declared.lexeme.Lexeme.{Lexeme}
use Rattle.lw_gramread.specs.declared.lexeme.Lexeme.TheVariants.{Word, Sign}

pub data MayTake (x : Symbol) : List Lexeme → List Lexeme → Bool → Type 0 where
  left_out : {ts : List Lexeme} → MayTake x ts ts false
  there : {s : Span} {ts : List Lexeme} → MayTake x (Sign x s ∷ ts) ts true

pub data MayTakeWord (r : Reserved) : List Lexeme → List Lexeme → Bool → Type 0 where
  left_out : {ts : List Lexeme} → MayTakeWord r ts ts false
  there : {n : List ℕ} {s : Span} {ts : List Lexeme} → MayTakeWord r (Word n (Some r) s ∷ ts) ts true
