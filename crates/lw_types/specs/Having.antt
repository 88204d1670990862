-- The properties that the types of a grammar have.
use Rattle.std.specs.Prelude.{ℕ, ◌≡◌, List, [], ◌∷◌, Some, None, Bool, false, not, nat_eq, ◌==◌, filter, length, slice_get}
use Rattle.std.specs.List.{flat_map, find, list_any}
use Rattle.std.specs.Option.{option_map_or}
use Rattle.lw_grammar.specs.declared.grammar.Grammar.{Grammar}
use Rattle.lw_grammar.specs.declared.declared_types.Attribute.{Attribute}
use Rattle.lw_grammar.specs.declared.declared_types.Interface.{Interface}
use Rattle.lw_grammar.specs.declared.declared_types.ValueKind.{ValueKind}
use Rattle.lw_grammar.specs.Named.{IsInterface}
use Rattle.lw_faults.specs.Attributes.{Lineage}
use Rattle.lw_numbers.specs.Numbering.{type_names}
use Rattle.lw_flow.specs.declared.before.Before.{Before}
use Rattle.lw_flow.specs.Recorded.{AreWaysOf}
use Rattle.lw_properties.specs.Mixing.{IsFree}
use Rattle.lw_properties.specs.Search.{attributes_of}
use Rattle.lw_types.specs.FirstSeen.{FirstSeen}
use Rattle.lw_types.specs.Values.{MembersGive}
use Rattle.lw_types.specs.Sightings.{Sighting, SeenInRules, prop_number}
use Rattle.lw_types.specs.declared.property_table.info.PropertyInfo.{PropertyInfo}

-- the number is none of those that were had
abbrev pub is_new : List ℕ → ℕ → Bool
is_new had n = not (list_any (nat_eq n) had)

-- ---- properties by what is put into them

-- all values that are put into the property
abbrev pub values_put_in : List Sighting → ℕ → List ValueKind
values_put_in seen prop = flat_map (λ s. s.values) (filter (λ s. s.prop == prop) seen)

-- `ArePutInto seen had infos`: the properties that something is put into, but for those that were had, in the order in which that is first
-- so. It is a list where it is one the first time.
pub data ArePutInto (seen : List Sighting) : List ℕ → List PropertyInfo → Type 0 where
  none : {had : List ℕ} → find (λ s. is_new had s.prop) seen ≡ None → ArePutInto seen had []
  more : {had : List ℕ} {info : PropertyInfo} {infos : List PropertyInfo} (first : Sighting) → find (λ s. is_new had s.prop) seen ≡ Some first →
      info.prop.0 ≡ first.prop → info.list ≡ first.list → FirstSeen [] (values_put_in seen first.prop) info.values → ArePutInto seen (first.prop ∷ had) infos →
      ArePutInto seen had (info ∷ infos)

-- ---- properties by what is declared

module _ (g : Grammar) where
  abbrev pub is_new_attribute : List ℕ → Attribute → Bool
  is_new_attribute had attribute = option_map_or (is_new had) (prop_number g attribute.name) false

  -- `AreDeclaredIn attributes had infos`: the properties of these attributes, but for those that were had, of each name the first
  pub data AreDeclaredIn (attributes : List Attribute) : List ℕ → List PropertyInfo → Type 0 where
    none : {had : List ℕ} → find (is_new_attribute had) attributes ≡ None → AreDeclaredIn attributes had []
    more : {had : List ℕ} {info : PropertyInfo} {infos : List PropertyInfo} (first : Attribute) (given : List ValueKind) →
        find (is_new_attribute had) attributes ≡ Some first → prop_number g first.name ≡ Some info.prop.0 → info.list ≡ first.list →
        MembersGive g [] first.members given → FirstSeen [] given info.values → AreDeclaredIn attributes (info.prop.0 ∷ had) infos →
        AreDeclaredIn attributes had (info ∷ infos)

  -- ---- the properties of a type

  -- what is put into the type of this number, at some leaf of a rule
  pub record AreInferredProperties (rows : List (List Before)) (n : ℕ) (infos : List PropertyInfo) : Type 0 where
    pub seen : List Sighting
    pub in_rules : SeenInRules g rows seen
    pub put_into : ArePutInto (filter (λ s. s.of == n) seen) [] infos

  -- its own attributes, and those of all that it extends
  pub record AreDeclaredProperties (type_name : List ℕ) (infos : List PropertyInfo) : Type 0 where
    pub lineage : List Interface
    pub all : Lineage g [] type_name lineage
    pub declared : AreDeclaredIn (attributes_of lineage) [] infos

  -- the number of the type of this name
  abbrev pub IsTypeNumber : List ℕ → ℕ → Type 0
  IsTypeNumber type_name n = slice_get (type_names g) n ≡ Some type_name

  -- the properties of the type of this number, where the rows say what may come before leaves. A union has none, and neither has a type that
  -- is not declared and not inferred.
  pub data ArePropertiesOf (rows : List (List Before)) (n : ℕ) : List PropertyInfo → Type 0 where
    inferred : {infos : List PropertyInfo} (type_name : List ℕ) → IsTypeNumber type_name n → IsFree g type_name → AreInferredProperties rows n infos →
        ArePropertiesOf rows n infos
    declared : {infos : List PropertyInfo} (type_name : List ℕ) (i : ℕ) (own : Interface) → IsTypeNumber type_name n → IsInterface g type_name i own →
        AreDeclaredProperties type_name infos → ArePropertiesOf rows n infos
    neither : (type_name : List ℕ) → IsTypeNumber type_name n → ¬ IsFree g type_name → ((i : ℕ) (own : Interface) → ¬ IsInterface g type_name i own) →
        ArePropertiesOf rows n []

-- a list for each type, by its number, where these are the ways to the leaves
pub record ArePropertyTableOf (g : Grammar) (table : List (List PropertyInfo)) : Type 0 where
  pub rows : List (List Before)
  pub ways : AreWaysOf g rows
  pub all : length table ≡ length (type_names g)
  pub each : (n : ℕ) (infos : List PropertyInfo) → slice_get table n ≡ Some infos → ArePropertiesOf g rows n infos
