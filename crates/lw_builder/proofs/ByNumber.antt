-- What has each finished node of a tree at its number is the list of its nodes in preorder.
use Rattle.std.proofs.Common.{ℕ, zero, suc, ◌≡◌, ◌+◌, Option, Some, None, List, [], ◌∷◌, length, refl, sym, subst, arith}
use Rattle.std.specs.Prelude.{slice_get, slice_index}
use Rattle.lw_base.specs.declared.numbers.NodeId.{NodeId}
use Rattle.lw_base.specs.declared.numbers.PropId.{PropId}
use Rattle.lw_tree.specs.declared.node.Node.{Node}
use Rattle.lw_builder.specs.declared.preorder.finished.Finished.{Finished}
use Rattle.lw_reading.specs.Grown.{Grown, Grow, Held, Nothing, Puts, Takes, Points, size, size_of, nodes, nodes_of}
use Rattle.lw_builder.specs.Finishing.{finished, finished_in, AreNumbered, numbers, numbers_of, renumbered, with_number, HasEach}
use Rattle.lw_builder.proofs.Each.{Each, each-append, each-front, each-back, each-at, each-from}
use Rattle.lw_builder.proofs.PreorderLengths.{length-finished_in, length-numbers_of, length-nodes, length-nodes_of}
use Rattle.lw_builder.proofs.Each.{At, itself}
use Rattle.lw_builder.proofs.TreeNumbers.{Reads, root, numbered}

mutual
  made_grown : (all : List Finished) (ns : List ℕ) (made : List Node) → HasEach all ns made → (above : Option NodeId) (p : Option PropId) (b n : ℕ) (g : Grown) →
      Each (At all) b (finished above p b g) → Each (Reads ns) b (numbers n g) → Each (At made) n (nodes (renumbered ns above) p n g)
  made_grown all ns made law above p b n (Grow t s held) at reads =
      let own : ℕ = b + size_of held in
      let inside : List Finished = finished_in (Some (record { 0 = own })) b held in
      let it : Finished = root above p b (Grow t s held) in
      let long : own ≡ b + length inside = omega (arith, length-finished_in (Some (record { 0 = own })) b held) in
      let long' : own ≡ b + length (numbers_of (n + 1) held) = omega (arith, length-numbers_of (n + 1) held) in
      let back : Each (At all) own (it ∷ []) = each-back (At all) b own inside (it ∷ []) long at in
      let value : Each (Reads ns) own (n ∷ []) = each-back (Reads ns) b own (numbers_of (n + 1) held) (n ∷ []) long' reads in
      let P : ℕ → Type 0 = λ j. slice_get made j ≡ Some (with_number ns it.node) in (
        subst P value.0 (law own it back.0),
        made_held all ns made law own b n (n + 1) held value.0 (each-front (At all) b inside (it ∷ []) at)
            (each-front (Reads ns) b (numbers_of (n + 1) held) (n ∷ []) reads),
      )

  made_held : (all : List Finished) (ns : List ℕ) (made : List Node) → HasEach all ns made → (own b number n : ℕ) (held : Held) → slice_index ns own ≡ number →
      Each (At all) b (finished_in (Some (record { 0 = own })) b held) → Each (Reads ns) b (numbers_of n held) → Each (At made) n (nodes_of number n held)
  made_held all ns made law own b number n Nothing value at reads = tt
  made_held all ns made law own b number n (Puts held p v) value at reads = made_held all ns made law own b number n held value at reads
  made_held all ns made law own b number n (Points held p want name s) value at reads = made_held all ns made law own b number n held value at reads
  made_held all ns made law own b number n (Takes held p g) value at reads =
      let above : Option NodeId = Some (record { 0 = own }) in
      let before : List Finished = finished_in above b held in
      let prop : Option PropId = Some (record { 0 = p }) in
      let m : ℕ = b + size_of held in
      let these : List Finished = finished above prop m g in
      let long : m ≡ b + length before = omega (arith, length-finished_in above b held) in
      let long' : m ≡ b + length (numbers_of n held) = omega (arith, length-numbers_of n held) in
      let far : n + size_of held ≡ n + length (nodes_of number n held) = omega (arith, length-nodes_of number n held) in
      let P : ℕ → Type 0 = λ k. Each (At made) (n + size_of held) (nodes (Some (record { 0 = k })) prop (n + size_of held) g) in
      each-append (At made) n (n + size_of held) (nodes_of number n held) (nodes (Some (record { 0 = number })) prop (n + size_of held) g) far
      (made_held all ns made law own b number n held value (each-front (At all) b before these at) (each-front (Reads ns) b (numbers_of n held) (numbers (n + size_of held) g) reads))
      (subst P value
      (made_grown all ns made law above prop m (n + size_of held) g (each-back (At all) b m before these long at)
      (each-back (Reads ns) b m (numbers_of n held) (numbers (n + size_of held) g) long' reads)))

-- the same the other way: each finished node stands at its number among the nodes in preorder
abbrev pub Has : List ℕ → List Node → ℕ → Finished → Type 0
Has ns made i x = slice_get made (slice_index ns i) ≡ Some (with_number ns x.node)

mutual
  has_grown : (ns : List ℕ) (made : List Node) (above : Option NodeId) (p : Option PropId) (b n : ℕ) (g : Grown) →
      Each (At made) n (nodes (renumbered ns above) p n g) → Each (Reads ns) b (numbers n g) → Each (Has ns made) b (finished above p b g)
  has_grown ns made above p b n (Grow t s held) at reads =
      let own : ℕ = b + size_of held in
      let inside : List Finished = finished_in (Some (record { 0 = own })) b held in
      let it : Finished = root above p b (Grow t s held) in
      let long : own ≡ b + length inside = omega (arith, length-finished_in (Some (record { 0 = own })) b held) in
      let long' : own ≡ b + length (numbers_of (n + 1) held) = omega (arith, length-numbers_of (n + 1) held) in
      let value : Each (Reads ns) own (n ∷ []) = each-back (Reads ns) b own (numbers_of (n + 1) held) (n ∷ []) long' reads in
      let P : ℕ → Type 0 = λ j. slice_get made j ≡ Some (with_number ns it.node) in
      each-append (Has ns made) b own inside (it ∷ []) long
      (has_held ns made own b n (n + 1) held value.0 at.1 (each-front (Reads ns) b (numbers_of (n + 1) held) (n ∷ []) reads))
      (subst P (sym value.0) at.0, tt)

  has_held : (ns : List ℕ) (made : List Node) (own b number n : ℕ) (held : Held) → slice_index ns own ≡ number →
      Each (At made) n (nodes_of number n held) → Each (Reads ns) b (numbers_of n held) → Each (Has ns made) b (finished_in (Some (record { 0 = own })) b held)
  has_held ns made own b number n Nothing value at reads = tt
  has_held ns made own b number n (Puts held p v) value at reads = has_held ns made own b number n held value at reads
  has_held ns made own b number n (Points held p want name s) value at reads = has_held ns made own b number n held value at reads
  has_held ns made own b number n (Takes held p g) value at reads =
      let above : Option NodeId = Some (record { 0 = own }) in
      let before : List Finished = finished_in above b held in
      let prop : Option PropId = Some (record { 0 = p }) in
      let m : ℕ = b + size_of held in
      let these : List Finished = finished above prop m g in
      let those : List Node = nodes (Some (record { 0 = number })) prop (n + size_of held) g in
      let long : m ≡ b + length before = omega (arith, length-finished_in above b held) in
      let long' : m ≡ b + length (numbers_of n held) = omega (arith, length-numbers_of n held) in
      let far : n + size_of held ≡ n + length (nodes_of number n held) = omega (arith, length-nodes_of number n held) in
      let P : ℕ → Type 0 = λ k. Each (At made) (n + size_of held) (nodes (Some (record { 0 = k })) prop (n + size_of held) g) in
      each-append (Has ns made) b m before these long
      (has_held ns made own b number n held value (each-front (At made) n (nodes_of number n held) those at)
      (each-front (Reads ns) b (numbers_of n held) (numbers (n + size_of held) g) reads))
      (has_grown ns made above prop m (n + size_of held) g
      (subst P (sym value) (each-back (At made) n (n + size_of held) (nodes_of number n held) those far at))
      (each-back (Reads ns) b m (numbers_of n held) (numbers (n + size_of held) g) long' reads))

pub has : (g : Grown) (ns : List ℕ) → AreNumbered (finished None None 0 g) ns → HasEach (finished None None 0 g) ns (nodes None None 0 g)
has g ns law =
    let all : List Finished = finished None None 0 g in
    let made : List Node = nodes None None 0 g in
    let each : Each (Has ns made) 0 all = has_grown ns made None None 0 0 g (each-from (At made) 0 made (itself made)) (numbered g ns law) in
    λ i x at. each-at (Has ns made) 0 i all i x (omega arith) each at

same_list : {X : Type 0} (xs ys : List X) → length ys ≡ length xs → ((i : ℕ) (x : X) → slice_get xs i ≡ Some x → slice_get ys i ≡ Some x) → ys ≡ xs
same_list [] [] e f = refl
same_list [] (y ∷ ys) e f = absurd (omega (arith, e))
same_list (x ∷ xs) [] e f = absurd (omega (arith, e))
same_list (x ∷ xs) (y ∷ ys) e f =
    let h : Some y ≡ Some x = f zero x refl in
    let t : ys ≡ xs = same_list xs ys (omega (arith, e)) (λ i z at. f (suc i) z at) in
    cc

-- what has each node at its number is the list of the nodes in preorder
pub only : (g : Grown) (ns : List ℕ) (made : List Node) → length made ≡ size g → AreNumbered (finished None None 0 g) ns → HasEach (finished None None 0 g) ns made →
    made ≡ nodes None None 0 g
only g ns made long law each =
    let all : List Finished = finished None None 0 g in
    let at : Each (At made) 0 (nodes None None 0 g) = made_grown all ns made each None None 0 0 g (each-from (At all) 0 all (itself all)) (numbered g ns law) in
    same_list (nodes None None 0 g) made (omega (arith, long, length-nodes None None 0 g)) (λ i x there. each-at (At made) 0 i (nodes None None 0 g) i x (omega arith) at there)
