-- Nodes in the order of finishing: what is inside a node before the node itself.
use Rattle.std.specs.Prelude.{ℕ, ◌≡◌, ◌+◌, ◌≤◌, ◌<◌, Option, Some, None, List, [], ◌∷◌, ◌++◌, length, slice_get, slice_index, slice_index_or, slice_set}
use Rattle.lw_base.specs.declared.numbers.PropId.{PropId}
use Rattle.lw_base.specs.declared.numbers.NodeId.{NodeId}
use Rattle.lw_tree.specs.declared.node.Node.{Node}
use Rattle.lw_tree.specs.declared.node.Value.{Value}
use Rattle.lw_tree.specs.declared.node.Value.TheVariants.{Child}
use Rattle.lw_builder.specs.declared.preorder.finished.Finished.{Finished}
use Rattle.lw_reading.specs.Grown.{Grown, Grow, Held, Nothing, Puts, Takes, Points, size_of}

-- the property of a node that is put into `own`, which is None while that one is not finished
abbrev pub under : Option NodeId → ℕ → Option PropId
under None p = None
under (Some own) p = Some (record { 0 = p })

-- a node and all inside it, where `base` nodes were finished before
abbrev mutual
  pub finished : Option NodeId → Option PropId → ℕ → Grown → List Finished
  finished above p base (Grow t s held) =
      finished_in (Some (record { 0 = base + size_of held })) base held
      ++ record { node = record { type_id = record { 0 = t }; container = above; prop = p; span = s }; start = base } ∷ []

  pub finished_in : Option NodeId → ℕ → Held → List Finished
  finished_in own base Nothing = []
  finished_in own base (Puts held p v) = finished_in own base held
  finished_in own base (Points held p want name s) = finished_in own base held
  finished_in own base (Takes held p g) = finished_in own base held ++ finished own (under own p) (base + size_of held) g

-- Each but the last stands in one that was finished later, and began no later.
abbrev pub StandsInNode : List Finished → ℕ → ℕ → Option NodeId → Type 0
StandsInNode all i start None = i + 1 ≡ length all
StandsInNode all i start (Some above) = (i < above.0) × (container : Finished) × (slice_get all above.0 ≡ Some container) × (container.start ≤ start)

pub record IsNested (all : List Finished) (i : ℕ) (x : Finished) : Type 0 where
  pub starts : x.start ≤ i
  pub stands : StandsInNode all i x.start x.node.container

abbrev pub AreNested : List Finished → Type 0
AreNested all = (i : ℕ) (x : Finished) → slice_get all i ≡ Some x → IsNested all i x

-- The root has the number 0. Any other has the number after its container's, and those of what stands in the container before it.
abbrev pub NumberedIn : List Finished → List ℕ → Finished → ℕ → Option NodeId → Type 0
NumberedIn all numbers x n None = n ≡ 0
NumberedIn all numbers x n (Some above) =
    (container : Finished) → slice_get all above.0 ≡ Some container → n + container.start ≡ slice_index numbers above.0 + 1 + x.start

-- those from the place `from` on
pub record AreNumberedFrom (all : List Finished) (numbers : List ℕ) (from : ℕ) : Type 0 where
  pub as_many : length numbers ≡ length all
  pub each : (i : ℕ) (x : Finished) → from ≤ i → slice_get all i ≡ Some x → NumberedIn all numbers x (slice_index numbers i) x.node.container
  pub fits : (i : ℕ) (x : Finished) → from ≤ i → slice_get all i ≡ Some x → slice_index numbers i + i + 1 ≤ length all + x.start

abbrev pub AreNumbered : List Finished → List ℕ → Type 0
AreNumbered all numbers = AreNumberedFrom all numbers 0

-- the numbers of a node and of all inside it, in the order of finishing, where the node has the number n
abbrev mutual
  pub numbers : ℕ → Grown → List ℕ
  numbers n (Grow t s held) = numbers_of (n + 1) held ++ n ∷ []

  pub numbers_of : ℕ → Held → List ℕ
  numbers_of n Nothing = []
  numbers_of n (Puts held p v) = numbers_of n held
  numbers_of n (Points held p want name s) = numbers_of n held
  numbers_of n (Takes held p g) = numbers_of n held ++ numbers (n + size_of held) g

-- a container named by its number in place of its place
abbrev pub renumbered : List ℕ → Option NodeId → Option NodeId
renumbered numbers None = None
renumbered numbers (Some above) = Some (record { 0 = slice_index numbers above.0 })

abbrev pub with_number : List ℕ → Node → Node
with_number numbers node = record node { container = renumbered numbers node.container }

-- each stands in `made` at its number
abbrev pub HasEach : List Finished → List ℕ → List Node → Type 0
HasEach all numbers made = (i : ℕ) (x : Finished) → slice_get all i ≡ Some x → slice_get made (slice_index numbers i) ≡ Some (with_number numbers x.node)

-- these are the nodes of this tree, in the order of finishing
abbrev pub is_finished_tree_of : Grown → List Finished → Type 0
is_finished_tree_of g all = all ≡ finished None None 0 g

abbrev pub IsFinishedTree : List Finished → Type 0
IsFinishedTree all = (g : Grown) × is_finished_tree_of g all

-- a finished node, put into p of the node `own`
abbrev pub taken : NodeId → PropId → Finished → Finished
taken own p x = record x { node = record x.node { container = Some own; prop = Some p } }

abbrev pub blank_finished : Finished
blank_finished = record { node = record { type_id = record { 0 = 0 }; container = None; prop = None; span = record { start = 0; end = 0 } }; start = 0 }

unfoldable pub adopted : NodeId → PropId → ℕ → List Finished → List Finished
adopted own p k xs = slice_set xs k (taken own p (slice_index_or xs k blank_finished))

-- the nodes among these values put into `own`, one after the other
abbrev pub adopts : NodeId → PropId → Value → List Finished → List Finished
adopts own p (Child place) xs = adopted own p place.0 xs
adopts own p _ xs = xs

abbrev pub adopts_all : NodeId → List (PropId × Value) → List Finished → List Finished
adopts_all own [] xs = xs
adopts_all own (v ∷ vs) xs = adopts_all own vs (adopts own v.0 v.1 xs)

-- the nodes among these values are of the first n
abbrev pub IsPlaceWithin : ℕ → Value → Type 0
IsPlaceWithin n (Child place) = place.0 < n
IsPlaceWithin n _ = Unit {0}

abbrev pub AreWithin : ℕ → List (PropId × Value) → Type 0
AreWithin n [] = Unit {0}
AreWithin n (v ∷ vs) = IsPlaceWithin n v.1 × AreWithin n vs
