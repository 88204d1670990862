-- Each container of what grows has a smaller number than what stands in it.
use Rattle.std.proofs.Common.{ℕ, zero, suc, ◌≡◌, ◌+◌, ◌<◌, List, [], ◌∷◌, ◌++◌, Option, Some, None, length, slice_get, refl, sym, ap, subst, ◌∙◌, arith}
use Rattle.std.proofs.lemmas.List.{length-append}
use Rattle.std.proofs.lemmas.Option.{same_Some}
use Rattle.lw_base.specs.declared.token.Token.{Token}
use Rattle.lw_base.specs.declared.numbers.PropId.{PropId}
use Rattle.lw_base.specs.declared.numbers.NodeId.{NodeId}
use Rattle.lw_tree.specs.declared.node.Node.{Node}
use Rattle.lw_tree.specs.Parts.{Parts, SameTables}
use Rattle.lw_reading.specs.Grown.{Grown, Grow, Held, Nothing, Puts, Takes, Points, size, size_of, nodes, nodes_of}
use Rattle.lw_reading.specs.Trees.{parts_of_tree}
use Rattle.lw_scoping.specs.Outward.{ContainersComeFirst}

-- a container, where there is one, has a smaller number
abbrev StandsBefore : ℕ → Option NodeId → Type 0
StandsBefore n None = Unit {0}
StandsBefore n (Some c) = c.0 < n

-- so it is for nodes that are counted from n
abbrev AreEnclosed : ℕ → List Node → Type 0
AreEnclosed n [] = Unit {0}
AreEnclosed n (x ∷ xs) = StandsBefore n x.container × AreEnclosed (n + 1) xs

joined : (n : ℕ) (xs ys : List Node) → AreEnclosed n xs → AreEnclosed (n + length xs) ys → AreEnclosed n (xs ++ ys)
joined n [] ys all more = let same : n + 0 ≡ n = omega arith in subst (λ (k : ℕ). AreEnclosed k ys) same more
joined n (x ∷ xs) ys all more =
    let same : n + length (x ∷ xs) ≡ (n + 1) + length xs = omega arith in
    (all.0, joined (n + 1) xs ys all.1 (subst (λ (k : ℕ). AreEnclosed k ys) same more))

-- ---- how many nodes

mutual
  count : (above : Option NodeId) (p : Option PropId) (n : ℕ) (x : Grown) → length (nodes above p n x) ≡ size x
  count above p n (Grow type s held) = omega (arith, count_inside n (n + 1) held)

  count_inside : (number n : ℕ) (held : Held) → length (nodes_of number n held) ≡ size_of held
  count_inside number n Nothing = refl
  count_inside number n (Puts held p v) = count_inside number n held
  count_inside number n (Points held p want name s) = count_inside number n held
  count_inside number n (Takes held p x) =
      omega (
        arith,
        length-append (nodes_of number n held) (nodes (Some (record { 0 = number })) (Some (record { 0 = p })) (n + size_of held) x),
        count_inside number n held,
        count (Some (record { 0 = number })) (Some (record { 0 = p })) (n + size_of held) x,
      )

-- ---- what grows

mutual
  enclosed : (above : Option NodeId) (p : Option PropId) (n : ℕ) (x : Grown) → StandsBefore n above → AreEnclosed n (nodes above p n x)
  enclosed above p n (Grow type s held) before = (before, enclosed_inside n (n + 1) held (omega arith))

  enclosed_inside : (number n : ℕ) (held : Held) → number < n → AreEnclosed n (nodes_of number n held)
  enclosed_inside number n Nothing lt = tt
  enclosed_inside number n (Puts held p v) lt = enclosed_inside number n held lt
  enclosed_inside number n (Points held p want name s) lt = enclosed_inside number n held lt
  enclosed_inside number n (Takes held p x) lt =
      let inner : List Node = nodes (Some (record { 0 = number })) (Some (record { 0 = p })) (n + size_of held) x in
      let same : n + size_of held ≡ n + length (nodes_of number n held) = omega (arith, count_inside number n held) in
      joined n (nodes_of number n held) inner (enclosed_inside number n held lt)
      (subst (λ (k : ℕ). AreEnclosed k inner) same
      (enclosed (Some (record { 0 = number })) (Some (record { 0 = p })) (n + size_of held) x (omega (arith, lt))))

-- ---- by their numbers

stands_before : (n c : ℕ) (above : Option NodeId) → above ≡ Some (record { 0 = c }) → StandsBefore n above → c < n
stands_before n c None is before = absurd (differ is)
  where
    differ : {a : NodeId} → None ≡ Some a → ⊥
    differ e = cc
stands_before n c (Some a) is before = omega (arith, before, ap (λ (x : NodeId). x.0) (same_Some {A = NodeId} a (record { 0 = c }) is))

by_number : (n : ℕ) (xs : List Node) → AreEnclosed n xs → (j c : ℕ) (node : Node) → slice_get xs j ≡ Some node → node.container ≡ Some (record { 0 = c }) → c < n + j
by_number n [] all j c node at is = absurd (nothing j at)
  where
    nothing : (j : ℕ) → slice_get {X = Node} [] j ≡ Some node → ⊥
    nothing zero at = cc
    nothing (suc j) at = cc
by_number n (x ∷ xs) all zero c node at is =
    let lt : c < n = stands_before n c x.container (ap (λ (y : Node). y.container) (same_Some x node at) ∙ is) all.0 in omega (arith, lt)
by_number n (x ∷ xs) all (suc j) c node at is = omega (arith, by_number (n + 1) xs all.1 j c node at is)

pub tree_encloses : (x : Grown) (tokens : List Token) (name : Option PropId) (tree : Parts) → SameTables tree (parts_of_tree x tokens name) →
    ContainersComeFirst tree × (0 < length tree.nodes)
tree_encloses x tokens name tree same = (first, some)
  where
    first : ContainersComeFirst tree
    first n c node at is =
        let at' : slice_get (nodes None None 0 x) n ≡ Some node = ap (λ (ns : List Node). slice_get ns n) (sym same.nodes) ∙ at in
        let lt = by_number 0 (nodes None None 0 x) (enclosed None None 0 x tt) n c node at' is in
        omega (arith, lt)

    rooted : (x : Grown) → 0 < length (nodes None None 0 x)
    rooted (Grow type s held) = omega arith

    some : 0 < length tree.nodes
    some = omega (arith, ap length same.nodes, rooted x)
