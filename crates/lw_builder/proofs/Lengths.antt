-- How many finished nodes and references there are.
use Rattle.std.proofs.Common.{ℕ, ◌≡◌, ◌+◌, ◌≤◌, Option, Some, None, List, [], ◌∷◌, length, refl, arith, length-append}
use Rattle.lw_base.specs.declared.numbers.NodeId.{NodeId}
use Rattle.lw_base.specs.declared.numbers.PropId.{PropId}
use Rattle.lw_tree.specs.declared.node.Reference.{Reference}
use Rattle.lw_reading.specs.Grown.{Grown, Grow, Held, Nothing, Puts, Takes, Points, size, size_of}
use Rattle.lw_reading.specs.Trees.{points, points_of}
use Rattle.lw_reading.specs.Brackets.{Bracket, InNode, InValue, Root}
use Rattle.lw_builder.specs.declared.preorder.finished.Finished.{Finished}
use Rattle.lw_builder.specs.Finishing.{under, finished, finished_in}
use Rattle.lw_builder.specs.Tables.{pointed, pointed_in}
use Rattle.lw_builder.specs.Contents.{nobody}
use Rattle.lw_builder.specs.Standing.{nodes_in, points_in, all_finished, all_pointed}

pub a_node_or_more : (x : Grown) → 1 ≤ size x
a_node_or_more (Grow t s held) = omega arith

mutual
  pub as_many_finished : (above : Option NodeId) (p : Option PropId) (b : ℕ) (x : Grown) → length (finished above p b x) ≡ size x
  as_many_finished above p b (Grow t s held) = omega (arith, length-append {A = Finished}, as_many_finished_in (Some (record { 0 = b + size_of held })) b held)

  pub as_many_finished_in : (own : Option NodeId) (b : ℕ) (held : Held) → length (finished_in own b held) ≡ size_of held
  as_many_finished_in own b Nothing = refl
  as_many_finished_in own b (Puts held p v) = as_many_finished_in own b held
  as_many_finished_in own b (Points held p want name s) = as_many_finished_in own b held
  as_many_finished_in own b (Takes held p x) =
      omega (arith, length-append {A = Finished}, as_many_finished_in own b held, as_many_finished own (under own p) (b + size_of held) x)

mutual
  pub as_many_pointed : (b : ℕ) (x : Grown) → length (pointed b x) ≡ points x
  as_many_pointed b (Grow t s held) = as_many_pointed_in (record { 0 = b + size_of held }) b held

  pub as_many_pointed_in : (own : NodeId) (b : ℕ) (held : Held) → length (pointed_in own b held) ≡ points_of held
  as_many_pointed_in own b Nothing = refl
  as_many_pointed_in own b (Puts held p v) = as_many_pointed_in own b held
  as_many_pointed_in own b (Points held p want name s) = omega (arith, length-append {A = Reference}, as_many_pointed_in own b held)
  as_many_pointed_in own b (Takes held p x) =
      omega (arith, length-append {A = Reference}, as_many_pointed_in own b held, as_many_pointed (b + size_of held) x)

-- as many as the brackets hold
pub length-all_finished : (bs : List Bracket) → length (all_finished bs) ≡ nodes_in bs
length-all_finished [] = refl
length-all_finished (InNode type from held ∷ bs) =
    omega (arith, length-append {A = Finished}, length-all_finished bs, as_many_finished_in None (nodes_in bs) held)
length-all_finished (InValue p op c at None ∷ bs) = length-all_finished bs
length-all_finished (InValue p op c at (Some x) ∷ bs) =
    omega (arith, length-append {A = Finished}, length-all_finished bs, as_many_finished None None (nodes_in bs) x)
length-all_finished (Root x ∷ bs) = omega (arith, length-append {A = Finished}, length-all_finished bs, as_many_finished None None (nodes_in bs) x)

pub length-all_pointed : (bs : List Bracket) → length (all_pointed bs) ≡ points_in bs
length-all_pointed [] = refl
length-all_pointed (InNode type from held ∷ bs) =
    omega (arith, length-append {A = Reference}, length-all_pointed bs, as_many_pointed_in nobody (nodes_in bs) held)
length-all_pointed (InValue p op c at None ∷ bs) = length-all_pointed bs
length-all_pointed (InValue p op c at (Some x) ∷ bs) = omega (arith, length-append {A = Reference}, length-all_pointed bs, as_many_pointed (nodes_in bs) x)
length-all_pointed (Root x ∷ bs) = omega (arith, length-append {A = Reference}, length-all_pointed bs, as_many_pointed (nodes_in bs) x)
