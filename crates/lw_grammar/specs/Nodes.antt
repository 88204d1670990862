-- Which rules make nodes, and which are data type rules, whose value is a text.
-- Held against the Langium documentation, "Grammar language": data type rules.
use Rattle.std.specs.Prelude.{ℕ, ◌≡◌, List, false, Contains}
use Rattle.lw_base.specs.declared.token.Span.{Span}
use Rattle.lw_grammar.specs.declared.grammar.Grammar.{Grammar}
use Rattle.lw_grammar.specs.declared.rule.Op.{Op}
use Rattle.lw_grammar.specs.declared.rule.Value0.{Value0}
use Rattle.lw_grammar.specs.declared.rule.Action.{Action}
use Rattle.lw_grammar.specs.declared.rule.Rule.{Rule}
use Rattle.lw_grammar.specs.Named.{IsRule}
use Rattle.lw_grammar.specs.Leaves.{Assign, Act, Call, leaves}

module _ (g : Grammar) where
  -- the least set of rules that have an assignment or an action, or call a rule of the set without assigning it
  pub data MakesNodes : Rule → Type 0 where
    assigns : {rule : Rule} (p : List ℕ) (op : Op) (v : Value0) (s : Span) → Contains (leaves rule.body) (Assign p op v s) → MakesNodes rule
    acts : {rule : Rule} (a : Action) → Contains (leaves rule.body) (Act a) → MakesNodes rule
    calls : {rule : Rule} (name : List ℕ) (s : Span) (r : ℕ) (called : Rule) → Contains (leaves rule.body) (Call name s) → IsRule g name r called →
        MakesNodes called → MakesNodes rule

  -- a rule that is no fragment and makes no nodes
  abbrev pub IsDataType : Rule → Type 0
  IsDataType rule = (rule.is_fragment ≡ false) × ¬ MakesNodes rule
