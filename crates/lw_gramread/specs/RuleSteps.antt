-- The steps by which parser rules are read.
use Rattle.std.specs.Prelude.{ℕ, Bool, false, not, ◌&&◌, if◌then◌else◌, List}
use Rattle.lw_base.specs.declared.token.Span.{Span}
use Rattle.lw_grammar.specs.declared.rule.Rule.{Rule}
use Rattle.lw_grammar.specs.declared.rule.RuleResult.{RuleResult}
use Rattle.lw_grammar.specs.declared.rule.RuleResult.TheVariants as result
use Rattle.lw_gramlex.specs.declared.token.Symbol.TheVariants as sign
use Rattle.lw_gramread.specs.declared.lexeme.Reserved.TheVariants as word
use Rattle.lw_gramread.specs.declared.reader.left.Spot.{Spot}
use Rattle.lw_gramread.specs.declared.reader.left.Spot.TheVariants as spot
use Rattle.lw_gramread.specs.Steps.{Reading, ◌>>=◌, ◌>>◌, pure, sees_primitive, takes_reserved, symbol, free_word, primitive}
use Rattle.lw_gramread.specs.ValueSteps.{values_inside}
use Rattle.lw_gramread.specs.ElementSteps.{choice, choice_inside}

unfoldable pub returned : Reading RuleResult
returned = λ ts.
    if sees_primitive ts then (primitive spot.Rule >>= (λ p. pure (result.Gives p))) ts
    else (free_word spot.Rule >>= (λ n. pure (result.Returns n.0 n.1))) ts

unfoldable pub rule_result : Reading RuleResult
rule_result = do
  infers ← takes_reserved word.Infers
  returns ← if infers then pure false else takes_reserved word.Returns
  if infers then free_word spot.Rule >>= (λ n. pure (result.Infers n.0 n.1)) else (if returns then returned else pure result.Own)

-- what is said of a token that cannot follow before the name, and before the colon
abbrev pub before_name : Bool → Spot
before_name begins_with_name = if begins_with_name then spot.Elsewhere else spot.Rule

abbrev pub before_colon : Bool → RuleResult → Spot
before_colon begins_with_name result.Own = if begins_with_name then spot.FirstName else spot.RuleName
before_colon begins_with_name _ = spot.RuleType

-- where parentheses may nest so deep, behind the type and before it
unfoldable pub rule_tail : ℕ → Bool → Bool → List ℕ × Span → RuleResult → Reading Rule
rule_tail most entry fragment n type = do
  symbol sign.Colon (before_colon (not entry && not fragment) type)
  body ← choice (values_inside most) (choice_inside most)
  symbol sign.Semicolon spot.Rule
  pure (record { name = n.0; file = 0; span = n.1; is_entry = entry; is_fragment = fragment; result = type; body = body })

-- behind the words that may stand before its name
unfoldable pub rule_behind : ℕ → Bool → Bool → Reading Rule
rule_behind most entry fragment = free_word (before_name (not entry && not fragment)) >>= (λ n. rule_result >>= rule_tail most entry fragment n)

unfoldable pub rule : ℕ → Reading Rule
rule most = do
  entry ← takes_reserved word.Entry
  fragment ← takes_reserved word.Fragment
  rule_behind most entry fragment
