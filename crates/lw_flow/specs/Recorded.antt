-- What is recorded of each leaf of a grammar's rules: what may come before it, on the ways through all rules that come to it.
use Rattle.std.specs.Prelude.{ℕ, ◌≡◌, ◌≢◌, ◌↔◌, List, [], Some, true, length, slice_get, Contains, Any}
use Rattle.std.specs.List.Sorted.{IsStrictlyIncreasing}
use Rattle.lw_grammar.specs.declared.grammar.Grammar.{Grammar}
use Rattle.lw_grammar.specs.declared.rule.Rule.{Rule}
use Rattle.lw_grammar.specs.Leaves.{leaves}
use Rattle.lw_grammar.specs.Subtypes.{HasType}
use Rattle.lw_faults.specs.Steps.{Step, IsBehind, IsCurrentType}
use Rattle.lw_faults.specs.Misplaced.{FillsNode}
use Rattle.lw_numbers.specs.Numbering.{type_names}
use Rattle.lw_flow.specs.declared.before.Before.{Before}

-- the number of the type of this name is one of these
pub record HasNumberOf (g : Grammar) (type_name : List ℕ) (numbers : List ℕ) : Type 0 where
  pub number : ℕ
  pub named : slice_get (type_names g) number ≡ Some type_name
  pub among : Contains numbers number

module _ (g : Grammar) (rows : List (List Before)) where
  -- where the step is written, the entry passes
  pub record Somewhere (passes : Before → Type 0) (at : Step) : Type 0 where
    pub rule_number : ℕ
    pub leaf_number : ℕ
    pub row : List Before
    pub entry : Before
    pub written : slice_get g.rules rule_number ≡ Some at.written
    pub leaf : slice_get (leaves at.written.body) leaf_number ≡ Some at.leaf
    pub in_rows : slice_get rows rule_number ≡ Some row
    pub in_row : slice_get row leaf_number ≡ Some entry
    pub does : passes entry

  -- a row for each rule, and in it an entry for each leaf of its body, whose numbers ascend
  pub record HasEntries : Type 0 where
    pub rows_of_rules : length rows ≡ length g.rules
    pub entries_of_leaves : (w : ℕ) (rule : Rule) (row : List Before) → slice_get g.rules w ≡ Some rule → slice_get rows w ≡ Some row →
        length row ≡ length (leaves rule.body)
    pub current_ascends : (row : List Before) (entry : Before) → Contains rows row → Contains row entry → IsStrictlyIncreasing entry.current.items
    pub of_ascends : (row : List Before) (entry : Before) → Contains rows row → Contains row entry → IsStrictlyIncreasing entry.of.items

  pub record AreWaysOf : Type 0 where
    pub shape : HasEntries
    -- nothing comes before it
    pub first : (at : Step) → Somewhere (λ x. x.first ≡ true) at ↔ ((rule : Rule) × IsBehind g rule [] at)
    -- some step comes before it
    pub behind : (at : Step) → Somewhere (λ x. x.behind ≡ true) at ↔ ((rule : Rule) × (before : List Step) × IsBehind g rule before at × (before ≢ []))
    -- one of those fills a node
    pub filled : (at : Step) →
        Somewhere (λ x. x.filled ≡ true) at ↔ ((rule : Rule) × (before : List Step) × IsBehind g rule before at × Any (λ y. FillsNode g y.leaf) before)
    -- this type is current there
    pub current : (at : Step) (type_name : List ℕ) →
        Somewhere (λ x. HasNumberOf g type_name x.current.items) at
        ↔ ((rule : Rule) × (before : List Step) × IsBehind g rule before at × IsCurrentType g rule before type_name)
    -- a rule of this type comes to it
    pub of : (at : Step) (type_name : List ℕ) →
        Somewhere (λ x. HasNumberOf g type_name x.of.items) at ↔ ((rule : Rule) × (before : List Step) × IsBehind g rule before at × HasType g rule type_name)
