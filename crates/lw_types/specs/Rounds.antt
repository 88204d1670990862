-- Types that lead to each other, by the places at which they are declared, in words of the code: an interface to each that it extends, and a
-- union to each union that is a member of it.
use Rattle.std.specs.Prelude.{ℕ, ◌≡◌, ◌↔◌, List, Bool, Contains, map}
use Rattle.lw_grammar.specs.declared.grammar.Grammar.{Grammar}
use Rattle.lw_grammar.specs.declared.fault.GrammarFault.{GrammarFault}
use Rattle.lw_grammar.specs.declared.declared_types.Interface.{Interface}
use Rattle.lw_grammar.specs.declared.declared_types.UnionDef.{UnionDef}
use Rattle.lw_grammar.specs.declared.declared_types.Member.{Member}
use Rattle.lw_grammar.specs.declared.declared_types.Member.TheVariants as member
use Rattle.lw_grammar.specs.Named.{IsInterface, IsUnion}
use Rattle.lw_graph.specs.Walks.{Links, HasEdge, HasNode, GoesRound}
use Rattle.lw_faults.specs.Circles.{ExtendsType, HasMemberType}
use Rattle.lw_faults.specs.Faults.{fault}
use Rattle.lw_grammar.specs.Written.{IsKnownType}
use Rattle.lw_faults.specs.Finding.{OfSome, OneIf}

-- from one place to another
abbrev pub Arrow : Type 0
Arrow = ℕ × ℕ

-- in a graph of these edges, the places that lie on circles
pub record AreRound (edges : List Arrow) (round : List Bool) : Type 0 where
  pub graph : Links
  pub edge : (a b : ℕ) → HasEdge graph a b ↔ Contains edges (a, b)
  pub node : (n : ℕ) → HasNode round n ↔ GoesRound graph n

module _ (g : Grammar) where
  -- ---- interfaces

  -- from this place to the interface that the name means
  abbrev pub ToInterface : ℕ → List ℕ → Arrow → Type 0
  ToInterface i name e = (j : ℕ) × (other : Interface) × IsInterface g name j other × (e ≡ (i, j))

  -- from an interface at this place to those that it extends
  abbrev pub Extends : ℕ → Interface → Arrow → Type 0
  Extends i interface = OfSome (λ above. ToInterface i above.0) interface.above

  -- ---- unions

  abbrev pub ToUnion : ℕ → List ℕ → Arrow → Type 0
  ToUnion u name e = (w : ℕ) × (other : UnionDef) × IsUnion g name w other × (e ≡ (u, w))

  -- by a member that is named, and not one that is referred to
  abbrev pub ByMember : ℕ → Member → Arrow → Type 0
  ByMember u (member.Named name s) e = ToUnion u name e
  ByMember u (member.Refers name s) e = ⊥
  ByMember u (member.Plain primitive) e = ⊥
  ByMember u (member.Literal text) e = ⊥

  abbrev pub HasMembers : ℕ → UnionDef → Arrow → Type 0
  HasMembers u union = OfSome (ByMember u) union.members

  -- ---- faults

  -- an interface that its own name means lies on a circle
  abbrev pub TellsInterface : List Bool → ℕ → Interface → GrammarFault → Type 0
  TellsInterface round i interface =
      OneIf (IsInterface g interface.name i interface × HasNode round i) (fault 19 interface.file interface.span interface.name)

  abbrev pub TellsUnion : List Bool → ℕ → UnionDef → GrammarFault → Type 0
  TellsUnion round u union = OneIf (IsUnion g union.name u union × HasNode round u) (fault 19 union.file union.span union.name)

  -- the name is a known type's that is no interface
  abbrev pub IsNoInterface : List ℕ → Type 0
  IsNoInterface name = IsKnownType g name × ((i : ℕ) (other : Interface) → ¬ IsInterface g name i other)

  -- an interface extends one
  abbrev pub ExtendsOther : Interface → Type 0
  ExtendsOther interface = (above : List ℕ) × Contains (map (λ n. n.0) interface.above) above × IsNoInterface above

  abbrev pub TellsOther : Interface → GrammarFault → Type 0
  TellsOther interface = OneIf (ExtendsOther interface) (fault 19 interface.file interface.span interface.name)

  -- ---- what all of that finds

  abbrev pub CircularInterface : GrammarFault → Type 0
  CircularInterface f =
      (i : ℕ) × (interface : Interface) × IsInterface g interface.name i interface × ExtendsType g interface.name interface.name
      × (f ≡ fault 19 interface.file interface.span interface.name)

  abbrev pub CircularUnion : GrammarFault → Type 0
  CircularUnion f =
      (u : ℕ) × (union : UnionDef) × IsUnion g union.name u union × HasMemberType g union.name union.name
      × (f ≡ fault 19 union.file union.span union.name)
