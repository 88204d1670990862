-- The code's own words of the properties of a type that are met so far.
use Rattle.std.specs.Prelude.{ℕ, ◌≡◌, ◌≢◌, List, [], ◌∷◌, ◌++◌, Bool, true, nat_eq, map, filter, ◌==◌, Some, length, slice_get}
use Rattle.std.specs.List.{list_any}
use Rattle.lw_grammar.specs.declared.declared_types.ValueKind.{ValueKind}
use Rattle.lw_grammar.specs.declared.declared_types.ValueKind.TheVariants.{Plain}
use Rattle.lw_grammar.specs.declared.terminal.Primitive.TheVariants as primitive
use Rattle.lw_types.specs.FirstSeen.{FirstSeen}
use Rattle.lw_types.specs.Values.{nodes_of, refs_to}
use Rattle.lw_types.specs.Sightings.{Sighting}
use Rattle.lw_types.specs.Having.{ArePutInto}
use Rattle.lw_types.specs.declared.property_table.info.PropertyInfo.{PropertyInfo}
use Rattle.lw_types.specs.declared.property_table.gathering.Met.{Met}
use Rattle.lw_types.specs.declared.property_table.value.Value.{Value}
use Rattle.lw_types.specs.declared.property_table.value.Value.TheVariants as value

abbrev pub value_kind : Value → ValueKind
value_kind value.Text = Plain primitive.Text
value_kind value.Number = Plain primitive.Number
value_kind value.Boolean = Plain primitive.Boolean
value_kind value.BigInt = Plain primitive.BigInt
value_kind value.Date = Plain primitive.Date
value_kind (value.Nodes n) = nodes_of n
value_kind (value.Refs n) = refs_to n

abbrev pub value_kinds : List Value → List ValueKind
value_kinds = map value_kind

-- those of the values that were not there were put behind, each once
pub record JoinsValues (old values new : List ValueKind) : Type 0 where
  pub more : List ValueKind
  pub is : new ≡ old ++ more
  pub first : FirstSeen old values more

abbrev pub info_of : ℕ × Met → PropertyInfo
info_of e = record { prop = record { 0 = e.0 }; list = e.1.list; values = value_kinds e.1.values.keys }

abbrev pub has_prop : List PropertyInfo → ℕ → Bool
has_prop infos prop = list_any (λ i. nat_eq prop i.prop.0) infos

-- these values were put into the property of this number, a list or not where it is a new one
pub data PutsIntoProperty (prop : ℕ) (list : Bool) (values : List ValueKind) : List PropertyInfo → List PropertyInfo → Type 0 where
  new : {info : PropertyInfo} → info.prop.0 ≡ prop → info.list ≡ list → JoinsValues [] values info.values → PutsIntoProperty prop list values [] (info ∷ [])
  here : {old new : PropertyInfo} {infos : List PropertyInfo} → old.prop.0 ≡ prop → new.prop.0 ≡ old.prop.0 → new.list ≡ old.list → JoinsValues old.values values new.values →
      PutsIntoProperty prop list values (old ∷ infos) (new ∷ infos)
  later : {info : PropertyInfo} {old new : List PropertyInfo} → info.prop.0 ≢ prop → PutsIntoProperty prop list values old new →
      PutsIntoProperty prop list values (info ∷ old) (info ∷ new)

-- of each of these types what was seen is gathered
pub record GathersSightings (wanted : List Bool) (seen : List Sighting) (gatherings : List (List PropertyInfo)) : Type 0 where
  pub all : length gatherings ≡ length wanted
  pub each : (n : ℕ) (infos : List PropertyInfo) → slice_get wanted n ≡ Some true → slice_get gatherings n ≡ Some infos →
      ArePutInto (filter (λ s. s.of == n) seen) [] infos
