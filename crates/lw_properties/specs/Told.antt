-- The code's own words of the faults that are told at a leaf, from what is recorded there.
use Rattle.std.specs.Prelude.{ℕ, ◌≢◌, ◌⊎◌, List, Option, Some, None, Bool}
use Rattle.lw_base.specs.declared.token.Span.{Span}
use Rattle.lw_grammar.specs.declared.fault.GrammarFault.{GrammarFault}
use Rattle.lw_grammar.specs.declared.grammar.Grammar.{Grammar}
use Rattle.lw_grammar.specs.declared.rule.Rule.{Rule}
use Rattle.lw_grammar.specs.declared.rule.Action.{Action}
use Rattle.lw_grammar.specs.declared.declared_types.Attribute.{Attribute}
use Rattle.lw_grammar.specs.Leaves.{Leaf, Call, Assign, Act}
use Rattle.lw_grammar.specs.Subtypes.{HasType, IsDeclared, IsSubtype}
use Rattle.lw_faults.specs.Steps.{CallsNode}
use Rattle.lw_faults.specs.Attributes.{NodesOf, HasAttribute}
use Rattle.lw_faults.specs.Properties.{IsRefusedKind}
use Rattle.lw_faults.specs.Faults.{fault}
use Rattle.lw_faults.specs.Finding.{OneIf}
use Rattle.lw_flow.specs.declared.before.Before.{Before}
use Rattle.lw_properties.specs.Asked.{LacksProperty, MisfitsProperty, SomeType}
use Rattle.lw_properties.specs.Places.{Spot, IsComeTo}

module _ (g : Grammar) where
  -- ---- unknown properties
  abbrev pub UnknownPut : Rule → Before → Action → Option (List ℕ × Bool) → GrammarFault → Type 0
  UnknownPut rule before a None = λ f. ⊥
  UnknownPut rule before a (Some put) = OneIf (IsComeTo before × LacksProperty g a.type_name put.0) (fault 14 rule.file a.span put.0)

  abbrev pub UnknownHere : Rule → Before → Leaf → GrammarFault → Type 0
  UnknownHere rule before (Assign p op v s) = OneIf (SomeType g (λ t. LacksProperty g t p) before.current.items) (fault 14 rule.file s p)
  UnknownHere rule before (Act a) = UnknownPut rule before a a.put
  UnknownHere rule before _ = λ f. ⊥

  abbrev pub UnknownAt : Spot → GrammarFault → Type 0
  UnknownAt spot = UnknownHere spot.rule spot.before spot.leaf

  -- ---- properties in another form
  -- the attribute is a list where the put is none, or the other way round, or it does not take the nodes that are put
  abbrev pub IsPutRefused : Before → Attribute → Bool → Type 0
  IsPutRefused before attribute list =
      (IsComeTo before × (attribute.list ≢ list)) ⊎ SomeType g (λ t. IsRefusedKind g attribute (NodesOf t)) before.current.items

  abbrev pub PutMisfits : Before → List ℕ → List ℕ → Bool → Type 0
  PutMisfits before type_name p list = IsDeclared g type_name × (attribute : Attribute) × HasAttribute g type_name p attribute × IsPutRefused before attribute list

  abbrev pub MisformedPut : Rule → Before → Action → Option (List ℕ × Bool) → GrammarFault → Type 0
  MisformedPut rule before a None = λ f. ⊥
  MisformedPut rule before a (Some put) = OneIf (PutMisfits before a.type_name put.0 put.1) (fault 15 rule.file a.span put.0)

  abbrev pub MisformedHere : Rule → Before → Leaf → GrammarFault → Type 0
  MisformedHere rule before (Assign p op v s) = OneIf (SomeType g (λ t. MisfitsProperty g t p op v) before.current.items) (fault 15 rule.file s p)
  MisformedHere rule before (Act a) = MisformedPut rule before a a.put
  MisformedHere rule before _ = λ f. ⊥

  abbrev pub MisformedAt : Spot → GrammarFault → Type 0
  MisformedAt spot = MisformedHere spot.rule spot.before spot.leaf

  -- ---- nodes of types that are not below
  -- one of these types is declared, and this one is not below it
  abbrev pub FallsOut : List ℕ → List ℕ → Type 0
  FallsOut below numbers = SomeType g (λ t. IsDeclared g t × ¬ IsSubtype g below t) numbers

  -- a rule of this type that makes nodes is called
  abbrev pub CallsNodeOf : List ℕ → Span → List ℕ → Type 0
  CallsNodeOf name s below = (called : Rule) × CallsNode g (Call name s) called × HasType g called below

  abbrev pub NotBelowHere : Rule → Before → Leaf → GrammarFault → Type 0
  NotBelowHere rule before (Act a) = OneIf (FallsOut a.type_name before.of.items) (fault 17 rule.file a.span a.type_name)
  NotBelowHere rule before (Call name s) = OneIf ((below : List ℕ) × CallsNodeOf name s below × FallsOut below before.of.items) (fault 17 rule.file s name)
  NotBelowHere rule before _ = λ f. ⊥

  abbrev pub NotBelowAt : Spot → GrammarFault → Type 0
  NotBelowAt spot = NotBelowHere spot.rule spot.before spot.leaf
