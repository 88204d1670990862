-- What stands in the tables of an index of other documents than one.
use Rattle.std.specs.Prelude.{◌≡◌, ◌↔◌, ℕ, List, Some, Contains, AllPairs}
use Rattle.std.specs.FinSet as set
use Rattle.std.specs.Ordering.{nat_cmp}
use Rattle.std.specs.declared.cmp.Ordering.TheVariants.{Less}
use Rattle.std.specs.BTreeMap as tree
use Rattle.lw_base.specs.declared.numbers.DocId.{DocId}
use Rattle.lw_index.specs.declared.parts.Target.{Target}
use Rattle.lw_index.specs.Least.{IsAmongWanted}
use Rattle.lw_index.specs.Slots.{Exporters, Names, name_cmp}

-- a slot of a wanted type is filled by another document
abbrev pub HasOther : Exporters → DocId → set.FinSet nat_cmp → Type 0
HasOther exporters except types = (uri : List ℕ) × (x : Target) × IsAmongWanted exporters types (Some except) uri x

module _ (names : Names) (except : DocId) (types : set.FinSet nat_cmp) where
  -- so it is among the slots of this name
  pub record IsOthers (name : List ℕ) : Type 0 where
    pub exporters : Exporters
    pub there : tree.get name_cmp names name ≡ Some exporters
    pub other : HasOther exporters except types

  -- these are all such names, in their order
  pub record AreOthers (found : List (List ℕ)) : Type 0 where
    pub exact : (name : List ℕ) → Contains found name ↔ IsOthers name
    pub ordered : AllPairs (λ one other. name_cmp one other ≡ Less) found
