-- The numbers of the types and properties of a grammar: their places among the names in first-seen order.
use Rattle.std.specs.Prelude.{ℕ, ◌≡◌, List, Option, Some, None, slice_get, codes}
use Rattle.lw_base.specs.declared.numbers.PropId.{PropId}
use Rattle.lw_grammar.specs.declared.grammar.Grammar.{Grammar}
use Rattle.lw_numbers.specs.Numbering.{type_names, property_names}

abbrev pub IsNumberOfType : Grammar → List ℕ → ℕ → Type 0
IsNumberOfType g name n = slice_get (type_names g) n ≡ Some name

abbrev pub IsNumberOfProperty : Grammar → List ℕ → ℕ → Type 0
IsNumberOfProperty g name n = slice_get (property_names g) n ≡ Some name

-- the number of the property `name`, by whose value a node is named, where the grammar has one
abbrev pub IsNamingProperty : Grammar → Option PropId → Type 0
IsNamingProperty g None = (n : ℕ) → ¬ IsNumberOfProperty g (codes "name") n
IsNamingProperty g (Some p) = IsNumberOfProperty g (codes "name") p.0
