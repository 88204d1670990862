-- Which lists of kinds a set of heads has, and how sets grow.
use Rattle.std.specs.Prelude.{ℕ, ◌≡◌, ◌<◌, ◌+◌, ◌*◌, ◌⊎◌, ◌↔◌, List, Some, Contains, slice_get}
use Rattle.std.specs.List.{AllByRecursion}
use Rattle.lw_first.specs.declared.heads.head.Head.{Head}
use Rattle.lw_first.specs.Heads.{kinds_in}

-- no head stands twice
abbrev pub AreDistinctHeads : List Head → Type 0
AreDistinctHeads heads = (i j : ℕ) (head : Head) → slice_get heads i ≡ Some head → slice_get heads j ≡ Some head → i ≡ j

-- the numbers of its kinds have sixteen bits
abbrev pub HasSmallKinds : Head → Type 0
HasSmallKinds head = AllByRecursion (λ kind. kind < 65536) (kinds_in head)

-- there are no more heads than these: kinds have numbers below 65,536
abbrev pub most_heads : ℕ
most_heads = 1 + 65536 + 65536 * 65536 + 65536 * 65536 * 65536

-- one of the heads has these kinds
abbrev pub IsAmongHeads : List Head → List ℕ → Type 0
IsAmongHeads heads h = (head : Head) × Contains heads head × (kinds_in head ≡ h)

-- exactly those that are so were put in
abbrev pub AddsHeads : (List ℕ → Type 0) → List Head → List Head → Type 0
AddsHeads is_so old new = (h : List ℕ) → IsAmongHeads new h ↔ (IsAmongHeads old h ⊎ is_so h)

-- the set of this number has a head of these kinds
abbrev pub IsInSet : List (List Head) → ℕ → List ℕ → Type 0
IsInSet sets r h = (heads : List Head) × (slice_get sets r ≡ Some heads) × IsAmongHeads heads h
