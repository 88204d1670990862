-- The code's own words of which types rules have: flags of types, by their numbers.
use Rattle.std.specs.Prelude.{ℕ, ◌≡◌, ◌<◌, ◌↔◌, List, Some, Bool, true, length, slice_get, Contains}
use Rattle.lw_grammar.specs.declared.grammar.Grammar.{Grammar}
use Rattle.lw_grammar.specs.declared.rule.Rule.{Rule}
use Rattle.lw_grammar.specs.Nodes.{MakesNodes}
use Rattle.lw_grammar.specs.Subtypes.{HasType}
use Rattle.lw_faults.specs.Attributes.{IsTypeOfTexts}
use Rattle.lw_numbers.specs.Numbering.{type_names}
use Rattle.lw_flow.specs.Effects.{type_number}

module _ (g : Grammar) where
  -- it is the type of a rule that makes nodes
  pub record IsTypeOfNodes (type_name : List ℕ) : Type 0 where
    pub rule : Rule
    pub among : Contains g.rules rule
    pub makes_nodes : MakesNodes g rule
    pub of_type : HasType g rule type_name

  -- the type of this name has a number, whose flag is set
  pub record IsMarked (flags : List Bool) (type_name : List ℕ) : Type 0 where
    pub number : ℕ
    pub has : type_number g type_name ≡ Some number
    pub set : slice_get flags number ≡ Some true

  -- the flags of the types that texts have
  abbrev pub AreTextTypes : List Bool → Type 0
  AreTextTypes flags = (type_name : List ℕ) → IsTypeOfTexts g type_name ↔ IsMarked flags type_name

  -- the flags of the types that rules have which make nodes
  abbrev pub AreNodeTypes : List Bool → Type 0
  AreNodeTypes flags = (type_name : List ℕ) → IsTypeOfNodes type_name ↔ IsMarked flags type_name

  -- the type of a rule has this number
  abbrev pub HasTypeNumber : Rule → ℕ → Type 0
  HasTypeNumber rule n = (type_name : List ℕ) × HasType g rule type_name × (type_number g type_name ≡ Some n)

  -- a flag for each type: it is that of one of the first rules whose own flag is this one
  pub record AreTypesOfRules (nodes : List Bool) (makes : Bool) (count : ℕ) (flags : List Bool) : Type 0 where
    pub all : length flags ≡ length (type_names g)
    pub exact : (n : ℕ) →
        (slice_get flags n ≡ Some true)
        ↔ ((r : ℕ) × (rule : Rule) × (r < count) × (slice_get g.rules r ≡ Some rule) × (slice_get nodes r ≡ Some makes) × HasTypeNumber rule n)
