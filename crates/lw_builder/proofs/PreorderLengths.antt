-- How many there are of a tree's nodes, finished and numbered.
use Rattle.std.proofs.Common.{ℕ, ◌≡◌, ◌+◌, ◌≤◌, Option, Some, length, refl, arith, length-append}
use Rattle.lw_base.specs.declared.numbers.NodeId.{NodeId}
use Rattle.lw_base.specs.declared.numbers.PropId.{PropId}
use Rattle.lw_tree.specs.declared.node.Node.{Node}
use Rattle.lw_builder.specs.declared.preorder.finished.Finished.{Finished}
use Rattle.lw_reading.specs.Grown.{Grown, Grow, Held, Nothing, Puts, Takes, Points, size, size_of, nodes, nodes_of}
use Rattle.lw_builder.specs.Finishing.{under, finished, finished_in, numbers, numbers_of}

pub size_positive : (g : Grown) → 1 ≤ size g
size_positive (Grow t s held) = omega arith

mutual
  pub length-finished : (above : Option NodeId) (p : Option PropId) (b : ℕ) (g : Grown) → length (finished above p b g) ≡ size g
  length-finished above p b (Grow t s held) =
      let own : Option NodeId = Some (record { 0 = b + size_of held }) in
      omega (arith, length-append {A = Finished}, length-finished_in own b held)

  pub length-finished_in : (own : Option NodeId) (b : ℕ) (held : Held) → length (finished_in own b held) ≡ size_of held
  length-finished_in own b Nothing = refl
  length-finished_in own b (Puts held p v) = length-finished_in own b held
  length-finished_in own b (Points held p want name s) = length-finished_in own b held
  length-finished_in own b (Takes held p g) =
      omega (arith, length-append {A = Finished}, length-finished_in own b held, length-finished own (under own p) (b + size_of held) g)

mutual
  pub length-numbers : (n : ℕ) (g : Grown) → length (numbers n g) ≡ size g
  length-numbers n (Grow t s held) = omega (arith, length-append {A = ℕ}, length-numbers_of (n + 1) held)

  pub length-numbers_of : (n : ℕ) (held : Held) → length (numbers_of n held) ≡ size_of held
  length-numbers_of n Nothing = refl
  length-numbers_of n (Puts held p v) = length-numbers_of n held
  length-numbers_of n (Points held p want name s) = length-numbers_of n held
  length-numbers_of n (Takes held p g) = omega (arith, length-append {A = ℕ}, length-numbers_of n held, length-numbers (n + size_of held) g)

mutual
  pub length-nodes : (above : Option NodeId) (p : Option PropId) (n : ℕ) (g : Grown) → length (nodes above p n g) ≡ size g
  length-nodes above p n (Grow t s held) = omega (arith, length-nodes_of n (n + 1) held)

  pub length-nodes_of : (number n : ℕ) (held : Held) → length (nodes_of number n held) ≡ size_of held
  length-nodes_of number n Nothing = refl
  length-nodes_of number n (Puts held p v) = length-nodes_of number n held
  length-nodes_of number n (Points held p want name s) = length-nodes_of number n held
  length-nodes_of number n (Takes held p g) =
      omega (arith, length-append {A = Node}, length-nodes_of number n held, length-nodes (Some (record { 0 = number })) (Some (record { 0 = p })) (n + size_of held) g)
