-- Faults of entry rules and of a grammar's size: 1 no entry rule, 2 second entry rule, 3 entry makes no node, 23 too many rules.
use Rattle.std.specs.Prelude.{ℕ, ◌≡◌, ◌+◌, ◌<◌, List, Some, Bool, true, false, length, slice_get, count_by, sum_by}
use Rattle.lw_base.specs.declared.token.Span.{Span}
use Rattle.lw_grammar.specs.declared.grammar.Grammar.{Grammar}
use Rattle.lw_grammar.specs.declared.rule.Rule.{Rule}
use Rattle.lw_grammar.specs.Leaves.{Leaf, Act, leaves}
use Rattle.lw_grammar.specs.Named.{IsEntry}
use Rattle.lw_grammar.specs.Nodes.{IsDataType}

abbrev pub is_act : Leaf → Bool
is_act (Act a) = true
is_act _ = false

module _ (g : Grammar) where
  -- the root file has no entry rule
  pub data NoEntry : ℕ → Span → List ℕ → Type 0 where
    no_entry : ((r : ℕ) (rule : Rule) → ¬ IsEntry g r rule) → NoEntry 0 (record { start = 0; end = 0 }) g.name

  -- a rule of the root file is marked as the entry, and one before it is too
  pub data SecondEntry : ℕ → Span → List ℕ → Type 0 where
    second_entry : (q r : ℕ) (first rule : Rule) → IsEntry g q first → q < r → slice_get g.rules r ≡ Some rule → rule.is_entry ≡ true → rule.file ≡ 0 →
        SecondEntry rule.file rule.span rule.name

  -- the entry rule is a fragment or a data type rule
  pub data EntryMakesNoNode : ℕ → Span → List ℕ → Type 0 where
    fragment_ : (r : ℕ) (rule : Rule) → IsEntry g r rule → rule.is_fragment ≡ true → EntryMakesNoNode rule.file rule.span rule.name
    data_type : (r : ℕ) (rule : Rule) → IsEntry g r rule → IsDataType g rule → EntryMakesNoNode rule.file rule.span rule.name

  -- how many actions the grammar writes
  abbrev pub action_count : ℕ
  action_count = sum_by (λ rule. count_by is_act (leaves rule.body)) g.rules

  -- rules, terminals and actions number more than 1,024
  pub data TooManyRules : ℕ → Span → List ℕ → Type 0 where
    too_many : 1024 < length g.rules + length g.terminals + action_count → TooManyRules 0 (record { start = 0; end = 0 }) g.name
