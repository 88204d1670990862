-- What is put into properties at the leaves of a grammar's rules, one after the other.
use Rattle.std.specs.Prelude.{ℕ, List, [], ◌∷◌, ◌++◌, Option, Some, None, Bool, map, filter, length, nat_lt, bytes_eq, position}
use Rattle.lw_base.specs.declared.token.Span.{Span}
use Rattle.lw_grammar.specs.declared.grammar.Grammar.{Grammar}
use Rattle.lw_grammar.specs.declared.rule.Op.{Op}
use Rattle.lw_grammar.specs.declared.rule.Rule.{Rule}
use Rattle.lw_grammar.specs.declared.rule.Value0.{Value0}
use Rattle.lw_grammar.specs.declared.rule.Action.{Action}
use Rattle.lw_grammar.specs.declared.declared_types.ValueKind.{ValueKind}
use Rattle.lw_grammar.specs.Leaves.{Leaf, Keyword, Call, Assign, Act, leaves}
use Rattle.lw_faults.specs.Properties.{is_list}
use Rattle.lw_numbers.specs.Numbering.{type_names, property_names}
use Rattle.lw_flow.specs.declared.before.Before.{Before}
use Rattle.lw_flow.specs.Effects.{type_number}
use Rattle.lw_properties.specs.Places.{IsComeTo}
use Rattle.lw_types.specs.Values.{AssignmentGives, nodes_of}

-- these values are put into the property of this number, of the type of this number, at the end of a list or not
pub record Sighting : Type 0 where
  pub of : ℕ
  pub prop : ℕ
  pub list : Bool
  pub values : List ValueKind

abbrev pub sighting : ℕ → ℕ → Bool → List ValueKind → Sighting
sighting of prop list values = record { of = of; prop = prop; list = list; values = values }

-- one for each of these types, where the property has a number
abbrev pub sightings : List ℕ → Option ℕ → Bool → List ValueKind → List Sighting
sightings types None list values = []
sightings types (Some prop) list values = map (λ of. sighting of prop list values) types

abbrev pub one_of : Option ℕ → List ℕ
one_of None = []
one_of (Some n) = n ∷ []

-- the number of the property of this name
abbrev pub prop_number : Grammar → List ℕ → Option ℕ
prop_number g name = position (bytes_eq name) (property_names g)

module _ (g : Grammar) where
  -- nodes of each of these types
  abbrev pub known_nodes : List ℕ → List ValueKind
  known_nodes numbers = map nodes_of (filter (λ n. nat_lt n (length (type_names g))) numbers)

  -- nodes of each type that is current there
  abbrev pub current_nodes : Before → List ValueKind
  current_nodes before = known_nodes before.current.items

  -- what is put in by an action, to which some way comes
  abbrev pub put_by : Before → Action → Option (List ℕ × Bool) → List Sighting
  put_by before a None = []
  put_by before a (Some put) = sightings (one_of (type_number g a.type_name)) (prop_number g put.0) put.1 (current_nodes before)

  -- what is put in at a leaf, where this may come before it: into each type that is current there, or into that of an action
  pub data SeenAtLeaf : Leaf → Before → List Sighting → Type 0 where
    assigned : {before : Before} {p : List ℕ} {op : Op} {v : Value0} {s : Span} (values : List ValueKind) → AssignmentGives g op v values →
        SeenAtLeaf (Assign p op v s) before (sightings before.current.items (prop_number g p) (is_list op) values)
    acted : {before : Before} {a : Action} → IsComeTo before → SeenAtLeaf (Act a) before (put_by before a a.put)
    not_come_to : {before : Before} {a : Action} → ¬ IsComeTo before → SeenAtLeaf (Act a) before []
    called : {before : Before} {name : List ℕ} {s : Span} → SeenAtLeaf (Call name s) before []
    keyword : {before : Before} {text : List ℕ} {s : Span} → SeenAtLeaf (Keyword text s) before []

-- `Along Gives xs ys found`: what is found along two lists, item by item, one after the other
pub data Along {A B X : Type 0} (Gives : A → B → List X → Type 0) : List A → List B → List X → Type 0 where
  none : Along Gives [] [] []
  more : {a : A} {b : B} {more_a : List A} {more_b : List B} {first others : List X} → Gives a b first → Along Gives more_a more_b others →
      Along Gives (a ∷ more_a) (b ∷ more_b) (first ++ others)

module _ (g : Grammar) where
  -- at the leaves of a rule's body, of which the row says what may come before them
  abbrev pub SeenInRule : Rule → List Before → List Sighting → Type 0
  SeenInRule rule row = Along (SeenAtLeaf g) (leaves rule.body) row

  -- at those of all rules, each with its row
  abbrev pub SeenInRules : List (List Before) → List Sighting → Type 0
  SeenInRules rows = Along SeenInRule g.rules rows
