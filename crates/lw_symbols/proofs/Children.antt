-- Which nodes stand directly in a node, and that their numbers ascend.
use Rattle.std.proofs.Common.{ℕ, zero, suc, ◌≡◌, ◌==◌, ◌+◌, ◌<◌, Bool, true, false, List, [], ◌∷◌, Option, Some, None, Contains, length, slice_get, refl, sym, ap, subst, ◌∙◌, true≢false, arith}
use Rattle.std.specs.Prelude.{if◌then◌else◌}
use Rattle.std.proofs.lemmas.Bool.Decides.{nat_tests}
use Rattle.std.proofs.lemmas.Option.{same_Some, slice_get_within}
use Rattle.lw_base.proofs.Lists.{there}
use Rattle.lw_base.specs.declared.numbers.NodeId.{NodeId}
use Rattle.lw_tree.specs.declared.node.Node.{Node}
use Rattle.lw_tree.specs.Parts.{children_from, children_of, is_inside}

pub equal_numbers : (a n : ℕ) → (a == n) ≡ true → a ≡ n
equal_numbers a n is = grind (arith, nat_tests)

pub itself : (n : ℕ) → (n == n) ≡ true
itself n = grind (arith, nat_tests)

abbrev some_node : ℕ → Option NodeId
some_node k = Some (record { 0 = k })

container_is : (n : ℕ) (c : Option NodeId) → is_inside n c ≡ true → c ≡ Some (record { 0 = n })
container_is n None is = absurd (true≢false (sym is))
container_is n (Some above) is = ap some_node (equal_numbers above.0 n is)

-- the node of a child, which has the number i + j
pub record IsChildIn (n i : ℕ) (xs : List Node) (c : NodeId) : Type 0 where
  pub place : ℕ
  pub node : Node
  pub number : c.0 ≡ i + place
  pub at : slice_get xs place ≡ Some node
  pub within : node.container ≡ Some (record { 0 = n })

further : {n i : ℕ} (x : Node) {xs : List Node} {c : NodeId} → IsChildIn n (i + 1) xs c → IsChildIn n i (x ∷ xs) c
further x is = record { place = suc is.place; node = is.node; number = omega (arith, is.number); at = is.at; within = is.within }

pub child_in : (n i : ℕ) (xs : List Node) (c : NodeId) → Contains (children_from n i xs) c → IsChildIn n i xs c
child_in n i [] c (k, inside, is) = absurd (omega (arith, inside))
child_in n i (x ∷ xs) c has = by (is_inside n x.container) refl (child_in n (i + 1) xs c) has
  where
    by : (b : Bool) → is_inside n x.container ≡ b → (Contains (children_from n (i + 1) xs) c → IsChildIn n (i + 1) xs c) →
        Contains (if b then record { 0 = i } ∷ children_from n (i + 1) xs else children_from n (i + 1) xs) c → IsChildIn n i (x ∷ xs) c
    by true e rest (zero, inside, is) =
        let same : i ≡ c.0 = ap (λ (k : NodeId). k.0) is in
        record { place = 0; node = x; number = omega (arith, same); at = refl; within = container_is n x.container e }
    by true e rest (suc k, inside, is) = further x (rest (k, omega (arith, inside), is))
    by false e rest has = further x (rest has)

stands : (b : Bool) (c x : NodeId) (xs : List NodeId) → Contains xs c → Contains (if b then x ∷ xs else xs) c
stands true c x xs has = there x xs c has
stands false c x xs has = has

stands_first : (b : Bool) (x : NodeId) (xs : List NodeId) → b ≡ true → Contains (if b then x ∷ xs else xs) x
stands_first true x xs is = (0, omega arith, refl)
stands_first false x xs is = absurd (true≢false (sym is))

pub in_children : (n i : ℕ) (xs : List Node) (j : ℕ) (node : Node) → slice_get xs j ≡ Some node → node.container ≡ Some (record { 0 = n }) →
    Contains (children_from n i xs) (record { 0 = i + j })
in_children n i [] j node at is = absurd (omega (arith, slice_get_within {A = Node} [] j node at))
in_children n i (x ∷ xs) zero node at is =
    let inside : is_inside n x.container ≡ true = ap (λ (y : Node). is_inside n y.container) (same_Some x node at) ∙ ap (is_inside n) is ∙ itself n in
    let number : i ≡ i + 0 = omega arith in
    subst (λ (k : ℕ). Contains (children_from n i (x ∷ xs)) (record { 0 = k })) number
    (stands_first (is_inside n x.container) (record { 0 = i }) (children_from n (i + 1) xs) inside)
in_children n i (x ∷ xs) (suc j) node at is =
    let number : (i + 1) + j ≡ i + suc j = omega arith in
    stands (is_inside n x.container) (record { 0 = i + suc j }) (record { 0 = i }) (children_from n (i + 1) xs)
    (subst (λ (k : ℕ). Contains (children_from n (i + 1) xs) (record { 0 = k })) number (in_children n (i + 1) xs j node at is))

-- a child is one of the nodes
pub child_inside : (n : ℕ) (xs : List Node) (c : NodeId) → Contains (children_of n xs) c → c.0 < length xs
child_inside n xs c has =
    let is = child_in n 0 xs c has in omega (arith, is.number, slice_get_within xs is.place is.node is.at)
