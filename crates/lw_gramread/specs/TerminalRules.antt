-- Terminals as they are written, and what they say. The tokens `ts` spell a thing where they begin with it and `rest` is left.
-- Held against the Langium documentation, "Grammar language", of which this is a stated part.
--     Terminal: 'hidden'? 'terminal' ('fragment' Word | Word ('returns' Primitive)?) ':' TChoice ';'
--     TChoice:  TSeq ('|' TSeq)*
--     TSeq:     TElem+
--     TElem:    (String ('..' String)? | Regex | Word | '(' TChoice ')') Card?
-- A Word is a word that is not reserved, a Primitive the word of one, a Regex one without flags. A row or a choice of one part is the
-- part itself. A place of one word, string or regex is that token's; that of a range runs from its first token to its last.
use Rattle.std.specs.Prelude.{ℕ, ◌≡◌, List, [], ◌∷◌, Bool, true, false, Some, None}
use Rattle.lw_base.specs.declared.token.Span.{Span}
use Rattle.lw_grammar.specs.declared.terminal.Primitive.{Primitive}
use Rattle.lw_grammar.specs.declared.terminal.Primitive.TheVariants as primitive
use Rattle.lw_grammar.specs.declared.terminal.Terminal.{Terminal}
use Rattle.lw_grammar.specs.declared.terminal.TermElement.{TermElement}
use Rattle.lw_grammar.specs.declared.terminal.TermElement.TheVariants.{Literal, Range, Pattern, Call, Maybe, Many, Some1}
use Rattle.lw_gramlex.specs.declared.token.Symbol.TheVariants.{Question, Star, Plus, Colon, Semicolon, Bar, DotDot, OpenParenthesis, CloseParenthesis}
use Rattle.lw_gramread.specs.declared.lexeme.Reserved.{Reserved}
use Rattle.lw_gramread.specs.declared.lexeme.Reserved.TheVariants as word
use Rattle.lw_gramread.specs.declared.lexeme.Lexeme.{Lexeme}
use Rattle.lw_gramread.specs.declared.lexeme.Lexeme.TheVariants.{Word, Text, Regex, Sign}
use Rattle.lw_gramread.specs.Lexemes.{primitive_of}
use Rattle.lw_gramread.specs.Spans.{across, term_group_of, term_choice_of}

-- Card?, behind a part: the element with its mark
pub data SpellsTermMark : List Lexeme → List Lexeme → TermElement → TermElement → Type 0 where
  bare : {ts : List Lexeme} {e : TermElement} → SpellsTermMark ts ts e e
  maybe : {m : Span} {ts : List Lexeme} {e : TermElement} → SpellsTermMark (Sign Question m ∷ ts) ts e (Maybe e)
  many : {m : Span} {ts : List Lexeme} {e : TermElement} → SpellsTermMark (Sign Star m ∷ ts) ts e (Many e)
  some : {m : Span} {ts : List Lexeme} {e : TermElement} → SpellsTermMark (Sign Plus m ∷ ts) ts e (Some1 e)

mutual
  -- String ('..' String)? | Regex | Word | '(' TChoice ')'
  pub data SpellsTermPart : List Lexeme → List Lexeme → TermElement → Type 0 where
    literal : {v : List ℕ} {s : Span} {ts : List Lexeme} → SpellsTermPart (Text v s ∷ ts) ts (Literal v s)
    range : {v w : List ℕ} {s d t : Span} {ts : List Lexeme} → SpellsTermPart (Text v s ∷ Sign DotDot d ∷ Text w t ∷ ts) ts (Range v w (across s t))
    pattern_ : {p : List ℕ} {s : Span} {ts : List Lexeme} → SpellsTermPart (Regex p s ∷ ts) ts (Pattern p s)
    calls : {n : List ℕ} {s : Span} {ts : List Lexeme} → SpellsTermPart (Word n None s ∷ ts) ts (Call n s)
    enclosed : {o c : Span} {e : TermElement} {ts rest : List Lexeme} → SpellsTermChoice ts (Sign CloseParenthesis c ∷ rest) e →
        SpellsTermPart (Sign OpenParenthesis o ∷ ts) rest e

  pub data SpellsTerm : List Lexeme → List Lexeme → TermElement → Type 0 where
    term : {ts mid rest : List Lexeme} {e m : TermElement} → SpellsTermPart ts mid e → SpellsTermMark mid rest e m → SpellsTerm ts rest m

  -- TElem*
  pub data SpellsMoreTerms : List Lexeme → List Lexeme → List TermElement → Type 0 where
    no_term : {ts : List Lexeme} → SpellsMoreTerms ts ts []
    term_and : {ts mid rest : List Lexeme} {e : TermElement} {es : List TermElement} → SpellsTerm ts mid e → SpellsMoreTerms mid rest es →
        SpellsMoreTerms ts rest (e ∷ es)

  -- TElem+
  pub data SpellsTermRow : List Lexeme → List Lexeme → TermElement → Type 0 where
    row : {ts mid rest : List Lexeme} {e : TermElement} {es : List TermElement} → SpellsTerm ts mid e → SpellsMoreTerms mid rest es →
        SpellsTermRow ts rest (term_group_of (e ∷ es))

  -- ('|' TSeq)*
  pub data SpellsMoreTermRows : List Lexeme → List Lexeme → List TermElement → Type 0 where
    no_row : {ts : List Lexeme} → SpellsMoreTermRows ts ts []
    row_and : {b : Span} {ts mid rest : List Lexeme} {e : TermElement} {es : List TermElement} → SpellsTermRow ts mid e → SpellsMoreTermRows mid rest es →
        SpellsMoreTermRows (Sign Bar b ∷ ts) rest (e ∷ es)

  -- TSeq ('|' TSeq)*
  pub data SpellsTermChoice : List Lexeme → List Lexeme → TermElement → Type 0 where
    choice : {ts mid rest : List Lexeme} {e : TermElement} {es : List TermElement} → SpellsTermRow ts mid e → SpellsMoreTermRows mid rest es →
        SpellsTermChoice ts rest (term_choice_of (e ∷ es))

-- 'fragment' Word | Word ('returns' Primitive)?: its name and its place, whether it is a fragment, what it gives
pub data SpellsTermHead : List Lexeme → List Lexeme → List ℕ → Span → Bool → Primitive → Type 0 where
  fragment : {w n : List ℕ} {f s : Span} {ts : List Lexeme} → SpellsTermHead (Word w (Some word.Fragment) f ∷ Word n None s ∷ ts) ts n s true primitive.Text
  token : {n : List ℕ} {s : Span} {ts : List Lexeme} → SpellsTermHead (Word n None s ∷ ts) ts n s false primitive.Text
  gives : {n w v : List ℕ} {s r t : Span} {q : Reserved} {p : Primitive} {ts : List Lexeme} → primitive_of q ≡ Some p →
      SpellsTermHead (Word n None s ∷ Word w (Some word.Returns) r ∷ Word v (Some q) t ∷ ts) ts n s false p

-- behind the word `terminal`, where `hidden` says whether that word stands before it
pub data SpellsTerminal (hidden : Bool) : List Lexeme → List Lexeme → Terminal → Type 0 where
  terminal : {n : List ℕ} {s c e : Span} {ts us rest : List Lexeme} {is_fragment : Bool} {p : Primitive} {body : TermElement} →
      SpellsTermHead ts (Sign Colon c ∷ us) n s is_fragment p → SpellsTermChoice us (Sign Semicolon e ∷ rest) body →
      SpellsTerminal hidden ts rest (record { name = n; file = 0; span = s; is_hidden = hidden; is_fragment = is_fragment; gives = p; body = body })
