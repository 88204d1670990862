-- What a call in a body does: the body of a fragment stands there, or it is a step.
use Rattle.std.specs.Prelude.{ℕ, ◌≡◌, List, true}
use Rattle.lw_base.specs.declared.token.Span.{Span}
use Rattle.lw_grammar.specs.declared.grammar.Grammar.{Grammar}
use Rattle.lw_grammar.specs.declared.rule.Rule.{Rule}
use Rattle.lw_grammar.specs.Leaves as leaf
use Rattle.lw_grammar.specs.Named.{IsRule}
use Rattle.lw_faults.specs.Steps.{PutsInFragment}
use Rattle.lw_flow.specs.declared.effect.Effect.{Effect}
use Rattle.lw_flow.specs.declared.callee.Callee.{Callee}
use Rattle.lw_flow.specs.declared.callee.Callee.TheVariants.{Fragment, Step}
use Rattle.lw_flow.specs.Effects.{StepDoes}

module _ (g : Grammar) (name : List ℕ) where
  pub data IsCallee : Callee → Type 0 where
    fragment : (f : ℕ) (rule : Rule) → IsRule g name f rule → rule.is_fragment ≡ true → IsCallee (Fragment f)
    step : (x : Effect) → ((s : Span) → ¬ PutsInFragment g (leaf.Call name s)) → ((s : Span) → StepDoes g (leaf.Call name s) x) → IsCallee (Step x)
