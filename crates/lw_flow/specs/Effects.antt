-- What a list of steps does: what its last step does among those of most weight. An action weighs more than a call of a rule that makes
-- nodes, that more than an assignment, and that more than any other call.
use Rattle.std.specs.Prelude.{ℕ, List, [], ◌∷◌, Option, Some, None, bytes_eq, nat_le, option_and_then, position, if◌then◌else◌}
use Rattle.lw_base.specs.declared.token.Span.{Span}
use Rattle.lw_grammar.specs.declared.grammar.Grammar.{Grammar}
use Rattle.lw_grammar.specs.declared.rule.Rule.{Rule}
use Rattle.lw_grammar.specs.declared.rule.RuleResult.{RuleResult}
use Rattle.lw_grammar.specs.declared.rule.RuleResult.TheVariants.{Own, Returns, Gives, Infers}
use Rattle.lw_grammar.specs.declared.rule.Op.{Op}
use Rattle.lw_grammar.specs.declared.rule.Value0.{Value0}
use Rattle.lw_grammar.specs.declared.rule.Action.{Action}
use Rattle.lw_grammar.specs.Leaves as leaf
use Rattle.lw_grammar.specs.Leaves.{Leaf}
use Rattle.lw_faults.specs.Steps.{Step, CallsNode, IsNodeCall}
use Rattle.lw_numbers.specs.Numbering.{type_names}
use Rattle.lw_flow.specs.declared.effect.Effect.{Effect}
use Rattle.lw_flow.specs.declared.effect.Effect.TheVariants.{Nothing, Reads, Fills, Calls, Acts}

abbrev pub weight : Effect → ℕ
weight Nothing = 0
weight Reads = 1
weight Fills = 2
weight (Calls t) = 3
weight (Acts t) = 4

-- what is done by steps that do the one, and then by steps that do the other
abbrev pub joined_effect : Effect → Effect → Effect
joined_effect x y = if nat_le (weight x) (weight y) then y else x

-- the name after `returns` or `infers`, else the rule's own
abbrev pub result_name : List ℕ → RuleResult → Option (List ℕ)
result_name own Own = Some own
result_name own (Returns name s) = Some name
result_name own (Gives primitive) = None
result_name own (Infers name s) = Some name

-- the number of the type of this name
abbrev pub type_number : Grammar → List ℕ → Option ℕ
type_number g name = position (bytes_eq name) (type_names g)

-- the number of the type of the rule's nodes
abbrev pub own_number : Grammar → Rule → Option ℕ
own_number g rule = option_and_then (type_number g) (result_name rule.name rule.result)

module _ (g : Grammar) where
  -- what a step does alone
  pub data StepDoes : Leaf → Effect → Type 0 where
    reads : {name : List ℕ} {s : Span} → ¬ IsNodeCall g (leaf.Call name s) → StepDoes (leaf.Call name s) Reads
    calls : {name : List ℕ} {s : Span} (called : Rule) → CallsNode g (leaf.Call name s) called → StepDoes (leaf.Call name s) (Calls (own_number g called))
    fills : {p : List ℕ} {op : Op} {v : Value0} {s : Span} → StepDoes (leaf.Assign p op v s) Fills
    acts : {a : Action} → StepDoes (leaf.Act a) (Acts (type_number g a.type_name))

  -- what steps do, one after the other
  pub data HasEffect : List Step → Effect → Type 0 where
    none : HasEffect [] Nothing
    more : {at : Step} {steps : List Step} {x y : Effect} → StepDoes at.leaf x → HasEffect steps y → HasEffect (at ∷ steps) (joined_effect x y)
