-- The graph that subtypes are found by, in words of the code. Its nodes are the names of types and the bodies of rules, and its edges lead
-- from what is below to what is above. A body stands for all types that are read at its own level, fragments put in: an edge leads into
-- it from each type that one of its leaves makes and from the body of each fragment that it calls, and on to the type that is inferred
-- from it.
use Rattle.std.specs.Prelude.{ℕ, ◌≡◌, ◌+◌, ◌⊎◌, List, Some, true, length, position, bytes_eq}
use Rattle.lw_grammar.specs.declared.grammar.Grammar.{Grammar}
use Rattle.lw_grammar.specs.declared.rule.Rule.{Rule}
use Rattle.lw_grammar.specs.declared.declared_types.Interface.{Interface}
use Rattle.lw_grammar.specs.declared.declared_types.UnionDef.{UnionDef}
use Rattle.lw_grammar.specs.declared.declared_types.Member.{Member}
use Rattle.lw_grammar.specs.declared.declared_types.Member.TheVariants.{Named}
use Rattle.lw_grammar.specs.Leaves.{Leaf, Call, Act, leaves}
use Rattle.lw_grammar.specs.Named.{IsRule, IsInterface, IsUnion}
use Rattle.lw_grammar.specs.Subtypes.{HasType, InfersType}
use Rattle.lw_numbers.specs.Lists.{SomeAt}

-- a node: the type of this name, or the body of the rule of this number
pub data Kin : Type 0 where
  OfType : List ℕ → Kin
  OfBody : ℕ → Kin

-- from the one node an edge leads to the other
abbrev pub IsEdge : Kin → Kin → Kin → Kin → Type 0
IsEdge below above from to = (from ≡ below) × (to ≡ above)

-- from the interface to what it extends
abbrev pub ExtendsUp : Interface → Kin → Kin → Type 0
ExtendsUp interface from to = SomeAt interface.above (λ k above. IsEdge (OfType interface.name) (OfType above.0) from to)

abbrev pub MemberLeads : UnionDef → Member → Kin → Kin → Type 0
MemberLeads union (Named name s) from to = IsEdge (OfType name) (OfType union.name) from to
MemberLeads union _ from to = ⊥

-- from the members to the union
abbrev pub HoldsUp : UnionDef → Kin → Kin → Type 0
HoldsUp union from to = SomeAt union.members (λ k member. MemberLeads union member from to)

module _ (g : Grammar) where
  abbrev pub InterfaceLeads : ℕ → Interface → Kin → Kin → Type 0
  InterfaceLeads i interface from to = IsInterface g interface.name i interface × ExtendsUp interface from to

  abbrev pub UnionLeads : ℕ → UnionDef → Kin → Kin → Type 0
  UnionLeads u union from to = IsUnion g union.name u union × HoldsUp union from to

  -- what a call puts into a body: a fragment's body, or the type of the rule
  abbrev pub RulePutsUp : ℕ → Rule → Kin → Type 0
  RulePutsUp q called from =
      ((called.is_fragment ≡ true) × (from ≡ OfBody q)) ⊎ ((below : List ℕ) × HasType g called below × (from ≡ OfType below))

  -- what a leaf puts into a body
  abbrev pub PutsUp : Leaf → Kin → Type 0
  PutsUp (Call name s) from = (q : ℕ) × (called : Rule) × IsRule g name q called × RulePutsUp q called from
  PutsUp (Act a) from = from ≡ OfType a.type_name
  PutsUp _ from = ⊥

  abbrev pub LeafLeads : ℕ → Leaf → Kin → Kin → Type 0
  LeafLeads r leaf from to = PutsUp leaf from × (to ≡ OfBody r)

  abbrev pub LeavesLead : ℕ → List Leaf → Kin → Kin → Type 0
  LeavesLead r ls from to = SomeAt ls (λ k leaf. LeafLeads r leaf from to)

  abbrev pub ResultLeads : ℕ → Rule → Kin → Kin → Type 0
  ResultLeads r rule from to = (above : List ℕ) × InfersType g rule above × IsEdge (OfBody r) (OfType above) from to

  abbrev pub RuleLeads : ℕ → Rule → Kin → Kin → Type 0
  RuleLeads r rule from to = LeavesLead r (leaves rule.body) from to ⊎ ResultLeads r rule from to

  -- all edges
  abbrev pub LeadsUp : Kin → Kin → Type 0
  LeadsUp from to =
      SomeAt g.interfaces (λ i interface. InterfaceLeads i interface from to)
      ⊎ (SomeAt g.unions (λ u union. UnionLeads u union from to) ⊎ SomeAt g.rules (λ r rule. RuleLeads r rule from to))

-- the number of a node: names come before bodies
abbrev pub HasNumber : List (List ℕ) → Kin → ℕ → Type 0
HasNumber names (OfType name) n = position (bytes_eq name) names ≡ Some n
HasNumber names (OfBody r) n = n ≡ length names + r

-- the same edges between numbers
abbrev pub Placed : List (List ℕ) → (Kin → Kin → Type 0) → ℕ → ℕ → Type 0
Placed names R a b = (from : Kin) × (to : Kin) × R from to × HasNumber names from a × HasNumber names to b
