-- Faults of the order of actions and calls: 11 misplaced action, 12 misplaced call. What stands in a repeated body comes behind itself.
use Rattle.std.specs.Prelude.{ℕ, ◌≡◌, ◌≢◌, List, [], Some, None, Bool, Any}
use Rattle.lw_base.specs.declared.token.Span.{Span}
use Rattle.lw_grammar.specs.declared.grammar.Grammar.{Grammar}
use Rattle.lw_grammar.specs.declared.rule.Rule.{Rule}
use Rattle.lw_grammar.specs.declared.rule.Op.{Op}
use Rattle.lw_grammar.specs.declared.rule.Value0.{Value0}
use Rattle.lw_grammar.specs.declared.rule.Action.{Action}
use Rattle.lw_grammar.specs.Leaves as leaf
use Rattle.lw_grammar.specs.Leaves.{Leaf}
use Rattle.lw_faults.specs.Steps.{Step, step, IsBehind, CallsNode}

module _ (g : Grammar) where
  -- An action that makes the node one of its type comes behind an assignment, an action or a call; or one that takes the node so far comes
  -- where none of these has been.
  pub data MisplacedAction : ℕ → Span → List ℕ → Type 0 where
    simple : (rule written : Rule) (before : List Step) (a : Action) → IsBehind g rule before (step written (leaf.Act a)) → a.put ≡ None → before ≢ [] →
        MisplacedAction written.file a.span written.name
    current : (rule written : Rule) (a : Action) (put : List ℕ × Bool) → IsBehind g rule [] (step written (leaf.Act a)) → a.put ≡ Some put →
        MisplacedAction written.file a.span written.name

  -- an assignment, an action, or a call of a rule that makes nodes
  pub data FillsNode : Leaf → Type 0 where
    assigns : {p : List ℕ} {op : Op} {v : Value0} {s : Span} → FillsNode (leaf.Assign p op v s)
    acts : {a : Action} → FillsNode (leaf.Act a)
    calls : {l : Leaf} {called : Rule} → CallsNode g l called → FillsNode l

  -- a call of a rule that makes nodes, which would take the place of what is there already
  pub data MisplacedCall : ℕ → Span → List ℕ → Type 0 where
    misplaced_call : (rule written called : Rule) (before : List Step) (name : List ℕ) (s : Span) → IsBehind g rule before (step written (leaf.Call name s)) →
        CallsNode g (leaf.Call name s) called → Any (λ x. FillsNode x.leaf) before → MisplacedCall written.file s name
