-- What is known of a grammar's rules and types: which rules make nodes, and which types are below which.
use Rattle.std.specs.Prelude.{ℕ, ◌≡◌, ◌↔◌, List, ◌++◌, Bool, true, Some, length, slice_get, Contains}
use Rattle.lw_grammar.specs.declared.grammar.Grammar.{Grammar}
use Rattle.lw_grammar.specs.declared.rule.Rule.{Rule}
use Rattle.lw_grammar.specs.Nodes.{MakesNodes}
use Rattle.lw_grammar.specs.Subtypes.{IsSubtype}
use Rattle.lw_numbers.specs.Numbering.{type_names}

-- a flag for each rule: it makes nodes
pub record AreNodeRules (g : Grammar) (flags : List Bool) : Type 0 where
  pub all : length flags ≡ length g.rules
  pub exact : (r : ℕ) (rule : Rule) → slice_get g.rules r ≡ Some rule → MakesNodes g rule ↔ (slice_get flags r ≡ Some true)

-- the names of types, first those that are declared or inferred, and of each the numbers of those that it is below
pub record TypeTable : Type 0 where
  pub names : List (List ℕ)
  pub above : List (List ℕ)

-- by the table one type is below another
pub data StandsBelow (table : TypeTable) : List ℕ → List ℕ → Type 0 where
  same : {name : List ℕ} → StandsBelow table name name
  below : {one other : List ℕ} (i j : ℕ) (ups : List ℕ) → slice_get table.names i ≡ Some one → slice_get table.names j ≡ Some other →
      slice_get table.above i ≡ Some ups → Contains ups j → StandsBelow table one other

pub record AreSubtypesOf (g : Grammar) (table : TypeTable) : Type 0 where
  pub others : List (List ℕ)
  pub begins : table.names ≡ type_names g ++ others
  pub all : length table.above ≡ length table.names
  pub exact : (one other : List ℕ) → IsSubtype g one other ↔ StandsBelow table one other
