-- What is found wrong with a grammar, one fault after the other; and in the same words what else is gathered.
use Rattle.std.specs.Prelude.{ℕ, ◌≡◌, ◌<◌, ◌⊎◌, ◌↔◌, List, Some, Contains, slice_get}
use Rattle.lw_base.specs.declared.token.Span.{Span}
use Rattle.lw_grammar.specs.declared.fault.GrammarFault.{GrammarFault}

-- exactly those that are so were found besides those of before
pub record Finds {Y : Type 0} (is_so : Y → Type 0) (old new : List Y) : Type 0 where
  pub exact : (y : Y) → Contains new y ↔ (Contains old y ⊎ is_so y)

-- a fault of this number, told by its file, its place and the name
abbrev pub IsFaultOf : ℕ → (ℕ → Span → List ℕ → Type 0) → GrammarFault → Type 0
IsFaultOf number told f = (f.number ≡ number) × told f.file f.span f.name

-- what one of the items has
abbrev pub OfSome : {X Y : Type 0} → (X → Y → Type 0) → List X → Y → Type 0
OfSome {X} has xs y = (x : X) × Contains xs x × has x y

-- the same, where it depends on the item's place
abbrev pub AtSome : {X Y : Type 0} → (ℕ → X → Y → Type 0) → List X → Y → Type 0
AtSome {X} has xs y = (i : ℕ) × (x : X) × (slice_get xs i ≡ Some x) × has i x y

-- and is below this one
abbrev pub AtSomeBelow : {X Y : Type 0} → (ℕ → X → Y → Type 0) → ℕ → List X → Y → Type 0
AtSomeBelow {X} has n xs y = (i : ℕ) × (x : X) × (i < n) × (slice_get xs i ≡ Some x) × has i x y

-- this one, where that holds
abbrev pub OneIf : {Y : Type 0} → Type 0 → Y → Y → Type 0
OneIf holds one y = holds × (y ≡ one)
