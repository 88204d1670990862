-- What is known of the rules of a grammar: which can be reached, which may read no token, and which can come to an end.
use Rattle.std.specs.Prelude.{ℕ, ◌≡◌, ◌↔◌, List, Bool, Some, slice_get}
use Rattle.lw_grammar.specs.declared.grammar.Grammar.{Grammar}
use Rattle.lw_grammar.specs.declared.rule.Rule.{Rule}
use Rattle.lw_grammar.specs.Reached.{IsReached}
use Rattle.lw_graph.specs.Walks.{HasNode}
use Rattle.lw_faults.specs.Reads.{MayRead}

-- flags by the numbers of rules
pub record RuleFlags : Type 0 where
  pub reached : List Bool
  pub nothing : List Bool
  pub ends : List Bool

pub record IsReadingOf (g : Grammar) (flags : RuleFlags) : Type 0 where
  pub reached : (r : ℕ) → HasNode flags.reached r ↔ IsReached g r
  pub nothing : (r : ℕ) (rule : Rule) → slice_get g.rules r ≡ Some rule → HasNode flags.nothing r ↔ MayRead g rule.body 0
  pub ends : (r : ℕ) (rule : Rule) → slice_get g.rules r ≡ Some rule → HasNode flags.ends r ↔ ((n : ℕ) × MayRead g rule.body n)
