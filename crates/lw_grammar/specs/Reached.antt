-- The rules that can be reached from the entry rule.
use Rattle.std.specs.Prelude.{ℕ, ◌≡◌, List, Some, None, Contains, slice_get}
use Rattle.lw_base.specs.declared.token.Span.{Span}
use Rattle.lw_grammar.specs.declared.grammar.Grammar.{Grammar}
use Rattle.lw_grammar.specs.declared.rule.Op.{Op}
use Rattle.lw_grammar.specs.declared.rule.Value0.{Value0}
use Rattle.lw_grammar.specs.declared.rule.Rule.{Rule}
use Rattle.lw_grammar.specs.Named.{IsRule, IsEntry}
use Rattle.lw_grammar.specs.Leaves.{Call, Assign, leaves, Calls, Cross, value_leaves}
use Rattle.lw_grammar.specs.NameRules.{IsNameRule}

module _ (g : Grammar) where
  -- a value reads its text by the rule or terminal of this name
  pub data ValueCalls (v : Value0) (name : List ℕ) : Type 0 where
    calls : (s : Span) → Contains (value_leaves v) (Calls name s) → ValueCalls v name
    crosses : (wanted : List ℕ) (s : Span) → Contains (value_leaves v) (Cross wanted (Some name) s) → ValueCalls v name
    crosses_by_name : (wanted : List ℕ) (s : Span) → Contains (value_leaves v) (Cross wanted None s) → IsNameRule g wanted name → ValueCalls v name

  -- the rule's body calls the rule or terminal of this name, assigned or not
  pub data RuleCalls (rule : Rule) (name : List ℕ) : Type 0 where
    calls : (s : Span) → Contains (leaves rule.body) (Call name s) → RuleCalls rule name
    assigns : (p : List ℕ) (op : Op) (v : Value0) (s : Span) → Contains (leaves rule.body) (Assign p op v s) → ValueCalls v name → RuleCalls rule name

  -- by its number: the entry rule, and each rule that a reached one calls
  pub data IsReached : ℕ → Type 0 where
    entry : {r : ℕ} (rule : Rule) → IsEntry g r rule → IsReached r
    called : {q r : ℕ} (caller rule : Rule) (name : List ℕ) → IsReached q → slice_get g.rules q ≡ Some caller → RuleCalls caller name → IsRule g name r rule → IsReached r
