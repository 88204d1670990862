-- A table of sets, one for each rule.
use Rattle.std.specs.Prelude.{ℕ, ◌≡◌, ◌+◌, ◌-◌, ◌^◌, ◌<◌, ◌≤◌, Bool, true, false, List, [], ◌∷◌, Some, length, slice_get, slice_set, Contains}
use Rattle.std.specs.HashSet.{HashSet}
use Rattle.indexmap.specs.IndexSet.{insert_all}

module _ {X S : Type 0} where
  -- x is in the set of this number
  pub record InTable (table : List (HashSet X S)) (n : ℕ) (x : X) : Type 0 where
    pub row : HashSet X S
    pub there : slice_get table n ≡ Some row
    pub has : Contains row.keys x

  -- each of xs was put into the set of this number, and none was new where it has not grown
  pub record RowPut (eq : X → X → Bool) (n : ℕ) (xs : List X) (grown : Bool) (old new : List (HashSet X S)) : Type 0 where
    pub before : HashSet X S
    pub after : HashSet X S
    pub there : slice_get old n ≡ Some before
    pub is : new ≡ slice_set old n after
    pub put : after.keys ≡ insert_all eq before.keys xs
    pub none : grown ≡ false → after.keys ≡ before.keys
    pub more : grown ≡ true → (length before.keys < length after.keys) × (length after.keys < 2 ^ 64)

  -- how much more the sets can have, of which none has 2^64
  unfoldable pub room : List (HashSet X S) → ℕ
  room [] = 0
  room (row ∷ rows) = (2 ^ 64 - length row.keys) + room rows

  -- no set has anything
  abbrev pub AreEmptyRows : List (HashSet X S) → Type 0
  AreEmptyRows table = (n : ℕ) (x : X) → ¬ InTable table n x

-- no room was made, and some was taken where something has grown
pub record TakesRoom (grown : Bool) (old new : ℕ) : Type 0 where
  pub most : new ≤ old
  pub less : grown ≡ true → new < old
