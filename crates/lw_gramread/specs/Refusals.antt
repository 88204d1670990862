-- Where a grammar file goes wrong: the first token that cannot follow those before it, or the first parenthesis that is too deep.
use Rattle.std.specs.Prelude.{ℕ, ◌≡◌, ◌+◌, ◌-◌, take, List, [], ◌∷◌, ◌++◌, length, Option, Some, None}
use Rattle.lw_base.specs.declared.token.Span.{Span}
use Rattle.lw_grammar.specs.declared.grammar.Grammar.{Grammar}
use Rattle.lw_gramlex.specs.declared.token.FileToken.{FileToken}
use Rattle.lw_gramlex.specs.declared.token.Symbol.TheVariants.{OpenParenthesis}
use Rattle.lw_gramread.specs.declared.lexeme.Lexeme.{Lexeme}
use Rattle.lw_gramread.specs.declared.lexeme.Lexeme.TheVariants.{Sign}
use Rattle.lw_gramread.specs.declared.reader.ReadFault.{ReadFault}
use Rattle.lw_gramread.specs.declared.reader.ReadFault.TheVariants.{Unexpected, LeftOut, TooDeep, NoMemory}
use Rattle.lw_gramread.specs.declared.form.Form.{Form}
use Rattle.lw_gramread.specs.declared.reader.left.Spot.{Spot}
use Rattle.lw_gramread.specs.declared.reader.left.Stop.{Stop}
use Rattle.lw_gramread.specs.declared.reader.left.Stop.TheVariants as stop
use Rattle.lw_gramlex.specs.FileCut.{IsFileCutTo, IsFileCut}
use Rattle.lw_gramread.specs.Lexemes.{lexemes_of, place_of}
use Rattle.lw_gramread.specs.Syntax.{SpellsFile, openings, closings, IsShallow}
use Rattle.lw_gramread.specs.Forms.{BeginsFile, TellsOrNone}

-- an empty place at the text's end
abbrev pub text_end : List ℕ → Span
text_end text = record { start = length text; end = length text }

-- The token at this place cannot follow those before it, with which a grammar begins, and tells this form; or the text ends there too
-- early. No parenthesis before it is too deep.
pub data IsImpossible (text : List ℕ) : Span → Option Form → Type 0 where
  token : {at : ℕ} {tokens : List FileToken} {told : Option Form} (before after : List Lexeme) (t : Lexeme) → IsFileCutTo text at tokens →
      lexemes_of text tokens ≡ before ++ t ∷ after → BeginsFile before → ¬ (BeginsFile (before ++ t ∷ [])) → IsShallow before → TellsOrNone before t told →
      IsImpossible text (place_of t) told
  end : {tokens : List FileToken} → IsFileCut text tokens → BeginsFile (lexemes_of text tokens) → ((g : Grammar) → ¬ (SpellsFile (lexemes_of text tokens) g)) →
      IsShallow (lexemes_of text tokens) → IsImpossible text (text_end text) None

-- The parenthesis at this place can follow those before it, and is opened inside 64 others; none before it is.
pub data IsTooDeep (text : List ℕ) : Span → Type 0 where
  parenthesis : {at : ℕ} {tokens : List FileToken} (before after : List Lexeme) (s : Span) → IsFileCutTo text at tokens →
      lexemes_of text tokens ≡ before ++ Sign OpenParenthesis s ∷ after → BeginsFile (before ++ Sign OpenParenthesis s ∷ []) → IsShallow before →
      openings before ≡ closings before + 64 → IsTooDeep text s

-- what a refusal says of the text
abbrev pub IsRefusal : List ℕ → ReadFault → Type 0
IsRefusal text (Unexpected s) = IsImpossible text s None
IsRefusal text (LeftOut s form) = IsImpossible text s (Some form)
IsRefusal text (TooDeep s) = IsTooDeep text s
IsRefusal text NoMemory = Unit {0}

-- ---- what the reader tells of the place where it stopped

abbrev pub place_or_end : List ℕ → List Lexeme → Span
place_or_end text [] = text_end text
place_or_end text (t ∷ ts) = place_of t

-- the tokens before those that are left
abbrev pub front_of : List Lexeme → List Lexeme → List Lexeme
front_of all left = take (length all - length left) all

-- where `told` is the form by what is known of the place
abbrev pub Tells : Stop → Span → (Spot → Option Form) → ReadFault → Type 0
Tells (stop.Unexpected spot) s told (Unexpected p) = (p ≡ s) × (told spot ≡ None)
Tells (stop.Unexpected spot) s told (LeftOut p form) = (p ≡ s) × (told spot ≡ Some form)
Tells stop.TooDeep s told (TooDeep p) = p ≡ s
Tells stop.NoMemory s told NoMemory = Unit {0}
Tells _ s told _ = ⊥
