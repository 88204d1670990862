-- For each type the set of those that are it or below it, and how such sets are filled.
use Rattle.std.specs.Prelude.{ℕ, ◌≡◌, ◌<◌, ◌⊎◌, ◌↔◌, List, Some, true, length, slice_get, Contains}
use Rattle.std.specs.FinSet.{FinSet, contains}
use Rattle.std.specs.Ordering.{nat_cmp}
use Rattle.lw_grammar.specs.declared.grammar.Grammar.{Grammar}
use Rattle.lw_grammar.specs.Subtypes.{IsSubtype}
use Rattle.lw_numbers.specs.Numbering.{type_names}
use Rattle.lw_numbers.specs.Kinship.{TypeTable}

abbrev pub Sets : Type 0
Sets = List (FinSet nat_cmp)

-- in the set of the type `high` is the type `low`
pub record InSet (sets : Sets) (high low : ℕ) : Type 0 where
  pub set : FinSet nat_cmp
  pub there : slice_get sets high ≡ Some set
  pub has : contains set low ≡ true

pub record AreEmptySets (count : ℕ) (sets : Sets) : Type 0 where
  pub all : length sets ≡ count
  pub none : (high low : ℕ) → ¬ InSet sets high low

-- the type `low` is in the sets of these types besides those of before
pub record WidensSets (in' : ℕ → Type 0) (low : ℕ) (old new : Sets) : Type 0 where
  pub all : length new ≡ length old
  pub exact : (h l : ℕ) → InSet new h l ↔ (InSet old h l ⊎ ((l ≡ low) × (h < length old) × in' h))

-- by the table, the type `low` is `high` or below it
abbrev pub IsOrBelow : TypeTable → ℕ → ℕ → Type 0
IsOrBelow table low high = (high ≡ low) ⊎ ((row : List ℕ) × (slice_get table.above low ≡ Some row) × Contains row high)

-- no other number has its name
abbrev pub IsOnlyAt : TypeTable → ℕ → Type 0
IsOnlyAt table t = (i : ℕ) (name : List ℕ) → slice_get table.names t ≡ Some name → slice_get table.names i ≡ Some name → i ≡ t

-- the type is in the sets of all that it is or is below besides what was there before
pub record PutsType (table : TypeTable) (t : ℕ) (old new : Sets) : Type 0 where
  pub row : List ℕ
  pub there : slice_get table.above t ≡ Some row
  pub only : IsOnlyAt table t
  pub widens : WidensSets (λ high. (high ≡ t) ⊎ Contains row high) t old new

-- these sets, of the types below `count`, have of those below `done` each that is the set's type or below it
pub record AreSetsOf (table : TypeTable) (count done : ℕ) (sets : Sets) : Type 0 where
  pub all : length sets ≡ count
  pub only : (t : ℕ) → t < done → IsOnlyAt table t
  pub exact : (high low : ℕ) → InSet sets high low ↔ ((low < done) × (high < count) × IsOrBelow table low high)

-- the numbers of the types that are the one of this name or below it
abbrev pub AreNumbersBelow : Grammar → List ℕ → FinSet nat_cmp → Type 0
AreNumbersBelow g high set = (low : ℕ) → (contains set low ≡ true) ↔ ((name : List ℕ) × (slice_get (type_names g) low ≡ Some name) × IsSubtype g name high)
