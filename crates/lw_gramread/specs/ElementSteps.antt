-- The steps by which the bodies of parser rules are read.
use Rattle.std.specs.Prelude.{ℕ, zero, suc, Bool, true, false, ◌||◌, if◌then◌else◌, List, Option, Some, None, Err}
use Rattle.lw_base.specs.declared.token.Span.{Span}
use Rattle.lw_grammar.specs.declared.rule.Action.{Action}
use Rattle.lw_grammar.specs.declared.rule.Element.{Element}
use Rattle.lw_grammar.specs.declared.rule.Element.TheVariants as element
use Rattle.lw_grammar.specs.declared.rule.Op.{Op}
use Rattle.lw_grammar.specs.declared.rule.Value0.{Value0}
use Rattle.lw_gramlex.specs.declared.token.Symbol.TheVariants as sign
use Rattle.lw_gramread.specs.declared.lexeme.Reserved.TheVariants as word
use Rattle.lw_gramread.specs.declared.lexeme.Lexeme.{Lexeme}
use Rattle.lw_gramread.specs.declared.reader.left.Spot.TheVariants as spot
use Rattle.lw_gramread.specs.declared.reader.left.Stop.TheVariants.{TooDeep}
use Rattle.lw_gramread.specs.Spans.{across, group_of, choice_of}
use Rattle.lw_gramread.specs.Steps.{Reading, ◌>>=◌, ◌>>◌, pure, refuse, sees, sees_word, sees_name, sees_text, next_operator, skip, takes, takes_reserved, symbol, reserved, free_word, feature, text, one, first_and, separated}
use Rattle.lw_gramread.specs.ValueSteps.{value_in, values_inside}

unfoldable pub put_operator : Reading Bool
put_operator = takes sign.PlusEquals >>= (λ list. if list then pure true else symbol sign.Equals spot.Rule >> pure false)

unfoldable pub put_of : Reading (Option (List ℕ × Bool))
put_of = takes sign.Dot >>= (λ puts. if puts then (do
  property ← feature spot.Rule
  list ← put_operator
  reserved word.Current spot.Rule
  pure (Some (property.0, list))) else pure None)

unfoldable pub action_behind : Span → Bool → Reading Action
action_behind opened infers = do
  type ← free_word spot.Rule
  put ← put_of
  closed ← symbol sign.CloseBrace spot.Rule
  pure (record { infers = infers; type_name = type.0; put = put; span = across opened closed })

unfoldable pub action : Reading Action
action = do
  opened ← symbol sign.OpenBrace spot.Rule
  infers ← takes_reserved word.Infer
  action_behind opened infers

-- behind a part, the sign that marks it
abbrev pub marked_maybe : Element → Span → Reading Element
marked_maybe part place = symbol sign.Question spot.Rule >>= (λ m. pure (element.Maybe part (across place m)))

abbrev pub marked_many : Element → Span → Reading Element
marked_many part place = symbol sign.Star spot.Rule >>= (λ m. pure (element.Many part (across place m)))

abbrev pub marked_some : Element → Span → Reading Element
marked_some part place = symbol sign.Plus spot.Rule >>= (λ m. pure (element.Some1 part (across place m)))

unfoldable pub marked : Element → Span → Reading Element
marked part place = λ ts.
    if sees sign.Question ts then marked_maybe part place ts
    else if sees sign.Star ts then marked_many part place ts
    else if sees sign.Plus ts then marked_some part place ts
    else pure part ts

abbrev pub begins_element : List Lexeme → Bool
begins_element ts = sees_word ts || sees_text ts || sees sign.OpenParenthesis ts || sees sign.OpenBrace ts

-- over the reader of a value in parentheses, with them
module _ (value_inside : Reading (Value0 × Span)) where
  unfoldable pub assigned : List ℕ → Span → Op → Reading (Element × Span)
  assigned property s op = value_in value_inside >>= (λ v. pure (element.Assign property op v.0 (across s v.1), across s v.1))

  -- behind a word: an assignment where an operator follows, else a call
  abbrev pub behind_word : Bool → List ℕ → Span → Option Op → Reading (Element × Span)
  behind_word free n s (Some op) = skip >> assigned n s op
  behind_word free n s None = if free then pure (element.Call n s, s) else refuse spot.Rule

  unfoldable pub word_part : Reading (Element × Span)
  word_part = λ ts. (feature spot.Rule >>= (λ n. λ us. behind_word (sees_name ts) n.0 n.1 (next_operator us) us)) ts

  unfoldable pub plain_part : Reading (Element × Span)
  plain_part = λ ts. if sees_text ts then (text spot.Rule >>= (λ v. pure (element.Keyword v.0 v.1, v.1))) ts else word_part ts

  -- and over the reader of a choice in parentheses, with them
  module _ (inside : Reading (Element × Span)) where
    unfoldable pub part_in : Reading (Element × Span)
    part_in = λ ts. if sees sign.OpenParenthesis ts then inside ts else plain_part ts

    unfoldable pub element_in : Reading Element
    element_in = λ ts. if sees sign.OpenBrace ts then (action >>= (λ a. pure (element.Act a))) ts else (part_in >>= (λ p. marked p.0 p.1)) ts

    unfoldable pub elements : Reading (List Element)
    elements = first_and begins_element (one element_in) element_in

    unfoldable pub row : Reading Element
    row = elements >>= (λ es. pure (group_of es))

    unfoldable pub rows : Reading (List Element)
    rows = separated sign.Bar row

    unfoldable pub choice : Reading Element
    choice = rows >>= (λ es. pure (choice_of es))

unfoldable pub choice_inside : ℕ → Reading (Element × Span)
choice_inside zero = λ ts. Err (TooDeep, ts)
choice_inside (suc depth) = do
  opened ← symbol sign.OpenParenthesis spot.Rule
  inside ← choice (values_inside depth) (choice_inside depth)
  closed ← symbol sign.CloseParenthesis spot.Rule
  pure (inside, across opened closed)
