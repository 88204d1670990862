-- What is known of the attributes of declared types: by the name of a type, and by that of a property, the attribute.
use Rattle.std.specs.Prelude.{ℕ, List, Option, MatchOption, option_and_then, bytes_eq}
use Rattle.std.specs.Borrow.{Bor}
use Rattle.std.specs.Map.{lookup}
use Rattle.lw_grammar.specs.declared.grammar.Grammar.{Grammar}
use Rattle.lw_grammar.specs.declared.declared_types.Attribute.{Attribute}
use Rattle.lw_faults.specs.Attributes.{HasAttribute, HasNoAttribute}

-- by the names of types, of each by the names of properties
abbrev pub KnownAttributes : Type 0
KnownAttributes = List (List ℕ × List (List ℕ × Bor Attribute))

abbrev pub known_attribute : KnownAttributes → List ℕ → List ℕ → Option (Bor Attribute)
known_attribute known type_name p = option_and_then (λ of_type. lookup (bytes_eq p) of_type) (lookup (bytes_eq type_name) known)

-- these are the attributes of the grammar's types
abbrev pub AreAttributesOf : Grammar → KnownAttributes → Type 0
AreAttributesOf g known = (type_name p : List ℕ) → MatchOption (known_attribute known type_name p) (HasNoAttribute g type_name p) (λ a. HasAttribute g type_name p a.now)
