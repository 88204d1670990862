-- The code's own words of what it knows of a grammar, and of what is put in at leaves.
use Rattle.std.specs.Prelude.{ℕ, ◌≡◌, ◌⊎◌, ◌↔◌, List, [], ◌∷◌, ◌++◌, Option, Some, None, Bool, true, option_map, length, slice_get}
use Rattle.lw_grammar.specs.declared.grammar.Grammar.{Grammar}
use Rattle.lw_grammar.specs.declared.declared_types.Interface.{Interface}
use Rattle.lw_grammar.specs.declared.declared_types.Member.{Member}
use Rattle.lw_grammar.specs.declared.declared_types.UnionDef.{UnionDef}
use Rattle.lw_grammar.specs.Named.{IsInterface}
use Rattle.lw_numbers.specs.Numbering.{type_names}
use Rattle.lw_numbers.specs.Tables.{AreNumbersOf}
use Rattle.lw_numbers.specs.Kinship.{AreNodeRules}
use Rattle.lw_flow.specs.declared.before.Before.{Before}
use Rattle.lw_properties.specs.Kinds.{NamesUnion}
use Rattle.lw_properties.specs.Mixing.{IsFree}
use Rattle.lw_properties.specs.Typed.{AreTextTypes, AreNodeTypes}
use Rattle.lw_types.specs.Sightings.{Sighting, SeenInRules, sightings}
use Rattle.lw_types.specs.Having.{AreDeclaredProperties}
use Rattle.lw_types.specs.Gathered.{GathersSightings}
use Rattle.lw_types.specs.declared.property_table.info.PropertyInfo.{PropertyInfo}
use Rattle.lw_types.specs.declared.property_table.seeing.Put.{Put}
use Rattle.lw_types.specs.declared.property_table.source.Source.{Source}

-- one where there is one
abbrev pub list_of : {X : Type 0} → Option X → List X
list_of None = []
list_of (Some x) = x ∷ []

-- ---- flags of types, by their numbers

module _ (g : Grammar) where
  -- a flag for each type: it is inferred and not declared
  pub record AreFreeTypes (flags : List Bool) : Type 0 where
    pub all : length flags ≡ length (type_names g)
    pub exact : (n : ℕ) (type_name : List ℕ) → slice_get (type_names g) n ≡ Some type_name → IsFree g type_name ↔ (slice_get flags n ≡ Some true)

-- what is known is so of the grammar
pub record IsPropertySource (source : Source) : Type 0 where
  pub numbers : AreNumbersOf source.g.now source.numbers.now
  pub nodes : AreNodeRules source.g.now source.nodes.now
  pub texts : AreTextTypes source.g.now source.texts.now
  pub made : AreNodeTypes source.g.now source.made.now

abbrev pub NamesNoUnion : Grammar → Member → Type 0
NamesNoUnion g m = (u : ℕ) (union : UnionDef) → ¬ NamesUnion g m u union

-- ---- what is put in

abbrev pub sightings_of : Put → List ℕ → List Sighting
sightings_of put types = sightings types (option_map (λ p. p.0) put.prop) put.list put.values.now

-- these were gathered in addition
abbrev pub AddsTo : List Bool → List Sighting → List (List PropertyInfo) → List (List PropertyInfo) → Type 0
AddsTo wanted more old new = (seen : List Sighting) → GathersSightings wanted seen old → GathersSightings wanted (seen ++ more) new

-- such ones were gathered in addition
pub record Sees (wanted : List Bool) (Gives : List Sighting → Type 0) (old new : List (List PropertyInfo)) : Type 0 where
  pub more : List Sighting
  pub gives : Gives more
  pub adds : AddsTo wanted more old new

-- what is seen at all leaves is gathered
pub record AreGathered (g : Grammar) (rows : List (List Before)) (wanted : List Bool) (gatherings : List (List PropertyInfo)) : Type 0 where
  pub seen : List Sighting
  pub in_rules : SeenInRules g rows seen
  pub gathers : GathersSightings wanted seen gatherings

-- ---- the properties of types

module _ (g : Grammar) where
  -- those of a type that is not inferred, or declared
  pub data AreUnfreeProperties (type_name : List ℕ) : List PropertyInfo → Type 0 where
    declared : {infos : List PropertyInfo} (i : ℕ) (own : Interface) → IsInterface g type_name i own → AreDeclaredProperties g type_name infos →
        AreUnfreeProperties type_name infos
    neither : ((i : ℕ) (own : Interface) → ¬ IsInterface g type_name i own) → AreUnfreeProperties type_name []

  -- those of a type by its number, where this is what is gathered
  abbrev pub AreOfType : List (List PropertyInfo) → ℕ → List PropertyInfo → Type 0
  AreOfType gatherings n infos = (type_name : List ℕ) → slice_get (type_names g) n ≡ Some type_name →
      (IsFree g type_name × (slice_get gatherings n ≡ Some infos)) ⊎ ((¬ IsFree g type_name) × AreUnfreeProperties type_name infos)

  -- those of the first types, one after the other
  pub record AreSeenProperties (gatherings : List (List PropertyInfo)) (count : ℕ) (table : List (List PropertyInfo)) : Type 0 where
    pub all : length table ≡ count
    pub each : (n : ℕ) (infos : List PropertyInfo) → slice_get table n ≡ Some infos → AreOfType gatherings n infos
