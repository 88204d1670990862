-- The names of types that a grammar speaks of, in words of the code.
use Rattle.std.specs.Prelude.{ℕ, ◌≡◌, List, ◌++◌, Contains}
use Rattle.lw_grammar.specs.declared.grammar.Grammar.{Grammar}
use Rattle.lw_grammar.specs.declared.declared_types.Interface.{Interface}
use Rattle.lw_grammar.specs.declared.declared_types.UnionDef.{UnionDef}
use Rattle.lw_grammar.specs.declared.declared_types.Member.{Member}
use Rattle.lw_grammar.specs.declared.declared_types.Member.TheVariants.{Named}
use Rattle.lw_numbers.specs.Numbering.{type_names}
use Rattle.lw_numbers.specs.Lists.{SomeAt}

-- the new names begin with the old ones, and these are among them
pub record ExtendsBy (put : List ℕ → Type 0) (old new : List (List ℕ)) : Type 0 where
  pub more : List (List ℕ)
  pub begins : new ≡ old ++ more
  pub among : (name : List ℕ) → put name → Contains new name

-- the interface extends the type of this name
abbrev pub InterfaceSpeaks : Interface → List ℕ → Type 0
InterfaceSpeaks interface name = SomeAt interface.above (λ k above. name ≡ above.0)

abbrev pub NamesMember : Member → List ℕ → Type 0
NamesMember (Named member s) name = name ≡ member
NamesMember _ name = ⊥

-- the type of this name is a member of the union
abbrev pub UnionSpeaks : UnionDef → List ℕ → Type 0
UnionSpeaks union name = SomeAt union.members (λ k member. NamesMember member name)

-- first the types that have numbers, and then others that are extended or are members
pub record AreNames (g : Grammar) (names : List (List ℕ)) : Type 0 where
  pub others : List (List ℕ)
  pub begins : names ≡ type_names g ++ others
  pub extended : (name : List ℕ) → SomeAt g.interfaces (λ k interface. InterfaceSpeaks interface name) → Contains names name
  pub members : (name : List ℕ) → SomeAt g.unions (λ k union. UnionSpeaks union name) → Contains names name
