-- Of what grows, the outermost node alone stands in none.
use Rattle.std.proofs.Common.{ℕ, zero, suc, ◌≡◌, ◌+◌, ◌<◌, List, [], ◌∷◌, ◌++◌, Option, Some, None, length, slice_get, refl, sym, ap, subst, ◌∙◌, arith}
use Rattle.std.proofs.lemmas.Option.{same_Some}
use Rattle.lw_base.specs.declared.token.Token.{Token}
use Rattle.lw_base.specs.declared.numbers.PropId.{PropId}
use Rattle.lw_base.specs.declared.numbers.NodeId.{NodeId}
use Rattle.lw_tree.specs.declared.node.Node.{Node}
use Rattle.lw_tree.specs.Parts.{Parts, SameTables}
use Rattle.lw_reading.specs.Grown.{Grown, Grow, Held, Nothing, Puts, Takes, Points, size_of, nodes, nodes_of}
use Rattle.lw_reading.specs.Trees.{parts_of_tree}
use Rattle.lw_reading.specs.Known.{HasOneRoot}

-- it stands in a node
abbrev IsInside : Option NodeId → Type 0
IsInside None = ⊥
IsInside (Some c) = Unit {0}

abbrev AreInside : List Node → Type 0
AreInside [] = Unit {0}
AreInside (x ∷ xs) = IsInside x.container × AreInside xs

both : (xs ys : List Node) → AreInside xs → AreInside ys → AreInside (xs ++ ys)
both [] ys all more = more
both (x ∷ xs) ys all more = (all.0, both xs ys all.1 more)

mutual
  inside : (above : NodeId) (p : Option PropId) (n : ℕ) (x : Grown) → AreInside (nodes (Some above) p n x)
  inside above p n (Grow type s held) = (tt, held_inside n (n + 1) held)

  held_inside : (number n : ℕ) (held : Held) → AreInside (nodes_of number n held)
  held_inside number n Nothing = tt
  held_inside number n (Puts held p v) = held_inside number n held
  held_inside number n (Points held p want name s) = held_inside number n held
  held_inside number n (Takes held p x) =
      both (nodes_of number n held) (nodes (Some (record { 0 = number })) (Some (record { 0 = p })) (n + size_of held) x) (held_inside number n held)
      (inside (record { 0 = number }) (Some (record { 0 = p })) (n + size_of held) x)

none_without : (xs : List Node) → AreInside xs → (j : ℕ) (node : Node) → slice_get xs j ≡ Some node → node.container ≡ None → ⊥
none_without [] all j node at is = nothing j at
  where
    nothing : (j : ℕ) → slice_get {X = Node} [] j ≡ Some node → ⊥
    nothing zero at = cc
    nothing (suc j) at = cc
none_without (x ∷ xs) all zero node at is = subst IsInside (ap (λ (y : Node). y.container) (same_Some x node at) ∙ is) all.0
none_without (x ∷ xs) all (suc j) node at is = none_without xs all.1 j node at is

outermost : (x : Grown) (n : ℕ) (node : Node) → slice_get (nodes None None 0 x) n ≡ Some node → node.container ≡ None → n ≡ 0
outermost (Grow type s held) zero node at is = refl
outermost (Grow type s held) (suc j) node at is = absurd (none_without (nodes_of 0 1 held) (held_inside 0 1 held) j node at is)

pub one_root : (x : Grown) (tokens : List Token) (name : Option PropId) (tree : Parts) → SameTables tree (parts_of_tree x tokens name) → HasOneRoot tree
one_root x tokens name tree same = record {
  there = some;
  only = λ n node at is. outermost x n node (ap (λ (ns : List Node). slice_get ns n) (sym same.nodes) ∙ at) is;
}
  where
    rooted : (x : Grown) → 0 < length (nodes None None 0 x)
    rooted (Grow type s held) = omega arith

    some : 0 < length tree.nodes
    some = omega (arith, ap length same.nodes, rooted x)
