-- The names of types and of properties that parts of a grammar use, and that they are put behind others, each at its first use.
use Rattle.std.specs.Prelude.{ℕ, ◌≡◌, List, [], ◌∷◌, Option, Some, None, bytes_eq, map}
use Rattle.std.specs.List.{flat_map}
use Rattle.indexmap.specs.IndexSet.{insert_all}
use Rattle.lw_grammar.specs.declared.rule.Element.{Element}
use Rattle.lw_grammar.specs.declared.rule.Rule.{Rule}
use Rattle.lw_grammar.specs.declared.declared_types.Interface.{Interface}
use Rattle.lw_grammar.specs.Leaves.{leaves}
use Rattle.lw_numbers.specs.Numbering.{leaf_types, leaf_properties}
use Rattle.lw_numbers.specs.declared.first_uses.FirstUses.{FirstUses}

abbrev pub name_list : Option (List ℕ) → List (List ℕ)
name_list None = []
name_list (Some name) = name ∷ []

abbrev pub types_in : Element → List (List ℕ)
types_in e = flat_map leaf_types (leaves e)

abbrev pub properties_in : Element → List (List ℕ)
properties_in e = flat_map leaf_properties (leaves e)

abbrev pub rule_properties : Rule → List (List ℕ)
rule_properties rule = properties_in rule.body

abbrev pub attribute_names : Interface → List (List ℕ)
attribute_names interface = map (λ a. a.name) interface.attributes

-- these types and properties were put in
pub record Puts (types properties : List (List ℕ)) (old new : FirstUses) : Type 0 where
  pub types_put : new.types.keys ≡ insert_all bytes_eq old.types.keys types
  pub properties_put : new.properties.keys ≡ insert_all bytes_eq old.properties.keys properties
