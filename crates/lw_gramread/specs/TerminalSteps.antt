-- The steps by which terminals are read.
use Rattle.std.specs.Prelude.{ℕ, zero, suc, Bool, false, ◌||◌, if◌then◌else◌, List, Err}
use Rattle.lw_base.specs.declared.token.Span.{Span}
use Rattle.lw_grammar.specs.declared.terminal.Primitive.{Primitive}
use Rattle.lw_grammar.specs.declared.terminal.Primitive.TheVariants as primitives
use Rattle.lw_grammar.specs.declared.terminal.Terminal.{Terminal}
use Rattle.lw_grammar.specs.declared.terminal.TermElement.{TermElement}
use Rattle.lw_grammar.specs.declared.terminal.TermElement.TheVariants as term
use Rattle.lw_gramlex.specs.declared.token.Symbol.TheVariants as sign
use Rattle.lw_gramread.specs.declared.lexeme.Reserved.TheVariants as word
use Rattle.lw_gramread.specs.declared.lexeme.Lexeme.{Lexeme}
use Rattle.lw_gramread.specs.declared.reader.left.Spot.TheVariants as spot
use Rattle.lw_gramread.specs.declared.reader.left.Stop.TheVariants.{TooDeep}
use Rattle.lw_gramread.specs.Spans.{across, term_group_of, term_choice_of}
use Rattle.lw_gramread.specs.Steps.{Reading, ◌>>=◌, ◌>>◌, pure, sees, sees_name, sees_text, sees_regex, skip, takes, takes_reserved, symbol, free_word, text, regex, primitive, one, first_and, separated}

unfoldable pub terminal_result : Bool → Reading Primitive
terminal_result fragment = do
  returns ← if fragment then pure false else takes_reserved word.Returns
  if returns then primitive spot.Terminal else pure primitives.Text

unfoldable pub literal_or_range : List ℕ → Span → Reading TermElement
literal_or_range v s = takes sign.DotDot >>= (λ range. if range then text spot.Terminal >>= (λ w. pure (term.Range v w.0 (across s w.1))) else pure (term.Literal v s))

unfoldable pub plain_term : Reading TermElement
plain_term = λ ts.
    if sees_regex ts then (regex spot.Terminal >>= (λ p. pure (term.Pattern p.0 p.1))) ts
    else if sees_text ts then (text spot.Terminal >>= (λ v. literal_or_range v.0 v.1)) ts
    else (free_word spot.Terminal >>= (λ n. pure (term.Call n.0 n.1))) ts

unfoldable pub marked_term : TermElement → Reading TermElement
marked_term part = do
  maybe ← takes sign.Question
  many ← if maybe then pure false else takes sign.Star
  some ← if maybe || many then pure false else takes sign.Plus
  pure (if maybe then term.Maybe part else if many then term.Many part else if some then term.Some1 part else part)

abbrev pub begins_term : List Lexeme → Bool
begins_term ts = sees_name ts || sees_text ts || sees_regex ts || sees sign.OpenParenthesis ts

-- over the reader of what stands in parentheses, with them
module _ (inside : Reading TermElement) where
  unfoldable pub term_part : Reading TermElement
  term_part = λ ts. if sees sign.OpenParenthesis ts then inside ts else plain_term ts

  unfoldable pub term_element : Reading TermElement
  term_element = term_part >>= marked_term

  unfoldable pub term_elements : Reading (List TermElement)
  term_elements = first_and begins_term (one term_element) term_element

  unfoldable pub term_row : Reading TermElement
  term_row = term_elements >>= (λ es. pure (term_group_of es))

  unfoldable pub term_rows : Reading (List TermElement)
  term_rows = separated sign.Bar term_row

  unfoldable pub term_choice : Reading TermElement
  term_choice = term_rows >>= (λ es. pure (term_choice_of es))

unfoldable pub terms_inside : ℕ → Reading TermElement
terms_inside zero = λ ts. Err (TooDeep, ts)
terms_inside (suc depth) = do
  skip
  inside ← term_choice (terms_inside depth)
  symbol sign.CloseParenthesis spot.Terminal
  pure inside

-- where parentheses may nest so deep, behind the word that may stand before its name
unfoldable pub terminal_behind : ℕ → Bool → Bool → Reading Terminal
terminal_behind most hidden fragment = do
  n ← free_word spot.Terminal
  gives ← terminal_result fragment
  symbol sign.Colon spot.Terminal
  body ← term_choice (terms_inside most)
  symbol sign.Semicolon spot.Terminal
  pure (record { name = n.0; file = 0; span = n.1; is_hidden = hidden; is_fragment = fragment; gives = gives; body = body })

unfoldable pub terminal : ℕ → Bool → Reading Terminal
terminal most hidden = takes_reserved word.Fragment >>= terminal_behind most hidden
