-- The steps by which the values of assignments are read.
use Rattle.std.specs.Prelude.{ℕ, zero, suc, true, if◌then◌else◌, List, Option, Some, None, Err}
use Rattle.lw_base.specs.declared.token.Span.{Span}
use Rattle.lw_grammar.specs.declared.rule.Value0.{Value0}
use Rattle.lw_grammar.specs.declared.rule.Value0.TheVariants as value
use Rattle.lw_gramlex.specs.declared.token.Symbol.TheVariants as sign
use Rattle.lw_gramread.specs.declared.reader.left.Spot.TheVariants as spot
use Rattle.lw_gramread.specs.declared.reader.left.Stop.TheVariants.{TooDeep}
use Rattle.lw_gramread.specs.Spans.{across, value_among}
use Rattle.lw_gramread.specs.Steps.{Reading, ◌>>=◌, pure, sees, sees_text, takes, symbol, free_word, text, separated}

unfoldable pub rule_of_cross : Reading (Option (List ℕ))
rule_of_cross = do
  colon ← takes sign.Colon
  bar ← if colon then pure true else takes sign.Bar
  if bar then free_word spot.Rule >>= (λ n. pure (Some n.0)) else pure None

unfoldable pub cross_reference : Reading (Value0 × Span)
cross_reference = do
  opened ← symbol sign.OpenBracket spot.Rule
  wanted ← free_word spot.Rule
  rule ← rule_of_cross
  closed ← symbol sign.CloseBracket spot.Rule
  pure (value.Cross wanted.0 rule (across opened closed), across opened closed)

unfoldable pub plain_value : Reading (Value0 × Span)
plain_value = λ ts.
    if sees sign.OpenBracket ts then cross_reference ts
    else if sees_text ts then (text spot.Rule >>= (λ v. pure (value.Keyword v.0 v.1, v.1))) ts
    else (free_word spot.Rule >>= (λ n. pure (value.Call n.0 n.1, n.1))) ts

-- over the reader of what stands in parentheses, with them
module _ (inside : Reading (Value0 × Span)) where
  unfoldable pub value_in : Reading (Value0 × Span)
  value_in = λ ts. if sees sign.OpenParenthesis ts then inside ts else plain_value ts

  -- without its place
  abbrev pub bare_value : Reading Value0
  bare_value = value_in >>= (λ v. pure v.0)

  unfoldable pub values : Reading (List Value0)
  values = separated sign.Bar bare_value

unfoldable pub values_inside : ℕ → Reading (Value0 × Span)
values_inside zero = λ ts. Err (TooDeep, ts)
values_inside (suc depth) = do
  opened ← symbol sign.OpenParenthesis spot.Rule
  inside ← values (values_inside depth)
  closed ← symbol sign.CloseParenthesis spot.Rule
  pure (value_among inside, across opened closed)
