-- Which terminals a rule calls, by the leaves of its body.
use Rattle.std.proofs.Common.{ℕ, ◌↔◌, List, Some, None, Contains, refl, subst}
use Rattle.lw_grammar.specs.declared.grammar.Grammar.{Grammar}
use Rattle.lw_grammar.specs.declared.rule.Rule.{Rule}
use Rattle.lw_grammar.specs.declared.rule.Value0.{Value0}
use Rattle.lw_grammar.specs.Leaves as leaf
use Rattle.lw_grammar.specs.Leaves.{Leaf, leaves, ValueLeaf, Literal, Calls, Cross, value_leaves}
use Rattle.lw_grammar.specs.Reached.{ValueCalls, RuleCalls}
use Rattle.lw_grammar.specs.Reached as reached
use Rattle.lw_kinds.specs.Calls.{PartCallsName, LeafCallsName, IsTerminalSo, LeavesCallTerminal}

module _ (g : Grammar) where
  -- ---- values
  abbrev SomePart : Value0 → List ℕ → Type 0
  SomePart v name = (part : ValueLeaf) × Contains (value_leaves v) part × PartCallsName g part name

  part_of : {v : Value0} {name : List ℕ} → ValueCalls g v name → SomePart v name
  part_of {name = name} (reached.calls s has) = (Calls name s, has, refl)
  part_of {name = name} (reached.crosses wanted s has) = (Cross wanted (Some name) s, has, refl)
  part_of (reached.crosses_by_name wanted s has is) = (Cross wanted None s, has, is)

  value_calls : {v : Value0} {name : List ℕ} (part : ValueLeaf) → Contains (value_leaves v) part → PartCallsName g part name → ValueCalls g v name
  value_calls (Literal text s) has does = absurd does
  value_calls {v} (Calls called s) has does = reached.calls s (subst (λ n. Contains (value_leaves v) (Calls n s)) does has)
  value_calls (Cross wanted None s) has does = reached.crosses_by_name wanted s has does
  value_calls {v} (Cross wanted (Some written) s) has does = reached.crosses wanted s (subst (λ n. Contains (value_leaves v) (Cross wanted (Some n) s)) does has)

  -- ---- rules
  module _ (rule : Rule) where
    rule_calls : {name : List ℕ} (l : Leaf) → Contains (leaves rule.body) l → LeafCallsName g l name → RuleCalls g rule name
    rule_calls (leaf.Keyword text s) has does = absurd does
    rule_calls (leaf.Call called s) has does = reached.calls s (subst (λ n. Contains (leaves rule.body) (leaf.Call n s)) does has)
    rule_calls (leaf.Assign p op v s) has does = reached.assigns p op v s has (value_calls does.0 does.1 does.2)
    rule_calls (leaf.Act a) has does = absurd does

    leaf_of : {name : List ℕ} → RuleCalls g rule name → (l : Leaf) × Contains (leaves rule.body) l × LeafCallsName g l name
    leaf_of {name} (reached.calls s has) = (leaf.Call name s, has, refl)
    leaf_of (reached.assigns p op v s has does) = (leaf.Assign p op v s, has, part_of does)

    -- the terminals that its leaves call are those that it calls
    pub rule_terminals : (t : ℕ) → LeavesCallTerminal g (leaves rule.body) t ↔ IsTerminalSo g (RuleCalls g rule) t
    rule_terminals t = (
      λ (l, has, (name, does, terminal, means)). (name, rule_calls l has does, terminal, means),
      λ (name, does, terminal, means). let found = leaf_of does in (found.0, found.1, (name, found.2, terminal, means)),
    )
