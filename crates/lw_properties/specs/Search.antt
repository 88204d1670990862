-- The code's own words of its search through the interfaces above a type.
use Rattle.std.specs.Prelude.{ℕ, ◌≡◌, List, [], map, Bool, option_map, bytes_eq}
use Rattle.std.specs.Borrow.{Bor}
use Rattle.std.specs.Map.{lookup}
use Rattle.std.specs.List.{flat_map, find}
use Rattle.lw_grammar.specs.declared.grammar.Grammar.{Grammar}
use Rattle.lw_grammar.specs.declared.declared_types.Interface.{Interface}
use Rattle.lw_grammar.specs.declared.declared_types.Attribute.{Attribute}
use Rattle.lw_faults.specs.Attributes.{Lineage}

-- the types that an interface extends
abbrev pub names_above : Interface → List (List ℕ)
names_above own = map (λ n. n.0) own.above

abbrev pub attributes_of : List Interface → List Attribute
attributes_of order = flat_map (λ i. i.attributes) order

-- whatever is looked for, it is first in the one list where it is first in the other
abbrev pub SameFirsts : List Attribute → List Attribute → Type 0
SameFirsts xs ys = (p : Attribute → Bool) → find p xs ≡ find p ys

-- the interfaces of this order, each looked into once, are met as in the type's lineage
pub record Follows (g : Grammar) (type_name : List ℕ) (order : List Interface) : Type 0 where
  pub lineage : List Interface
  pub all : Lineage g [] type_name lineage
  pub same : SameFirsts (attributes_of lineage) (attributes_of order)

-- an attribute of this name
abbrev pub is_named : List ℕ → Attribute → Bool
is_named p attribute = bytes_eq attribute.name p

-- these entries have of each name the first attribute of the list
abbrev pub AreFirsts : List Attribute → List (List ℕ × Bor Attribute) → Type 0
AreFirsts attributes entries = (p : List ℕ) → option_map (λ a. a.now) (lookup (bytes_eq p) entries) ≡ find (is_named p) attributes

-- these entries are the attributes of a type
pub record ServesFor (g : Grammar) (type_name : List ℕ) (firsts : List (List ℕ × Bor Attribute)) : Type 0 where
  pub order : List Interface
  pub follows : Follows g type_name order
  pub are : AreFirsts (attributes_of order) firsts
