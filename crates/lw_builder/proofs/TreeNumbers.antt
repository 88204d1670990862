-- What numbers of finished nodes are right are those of the tree in preorder.
use Rattle.std.proofs.Common.{ℕ, ◌≡◌, ◌+◌, ◌-◌, Option, Some, None, List, [], ◌∷◌, length, refl, subst, arith}
use Rattle.std.specs.Prelude.{slice_get, slice_index}
use Rattle.lw_base.specs.declared.numbers.NodeId.{NodeId}
use Rattle.lw_base.specs.declared.numbers.PropId.{PropId}
use Rattle.lw_builder.specs.declared.preorder.finished.Finished.{Finished}
use Rattle.lw_reading.specs.Grown.{Grown, Grow, Held, Nothing, Puts, Takes, Points, size, size_of}
use Rattle.lw_builder.specs.Finishing.{finished, finished_in, AreNumbered, numbers, numbers_of}
use Rattle.lw_builder.proofs.Each.{Each, each-append, each-front, each-back, each-from}
use Rattle.lw_builder.proofs.PreorderLengths.{length-finished_in, length-numbers_of, size_positive}
use Rattle.lw_builder.proofs.Each.{At, itself}

-- this number stands there
abbrev pub Reads : List ℕ → ℕ → ℕ → Type 0
Reads ns i n = slice_index ns i ≡ n

-- what stands at the last place of a stretch
abbrev pub root : Option NodeId → Option PropId → ℕ → Grown → Finished
root above p b (Grow t s held) = record { node = record { type_id = record { 0 = t }; container = above; prop = p; span = s }; start = b }

pub last_is : (all : List Finished) (above : Option NodeId) (p : Option PropId) (b : ℕ) (g : Grown) (i : ℕ) → i + 1 ≡ b + size g →
    Each (At all) b (finished above p b g) → slice_get all i ≡ Some (root above p b g)
last_is all above p b (Grow t s held) i e at =
    let own : ℕ = b + size_of held in
    let inside : List Finished = finished_in (Some (record { 0 = own })) b held in
    let it : Finished = root above p b (Grow t s held) in
    let long : own ≡ b + length inside = omega (arith, length-finished_in (Some (record { 0 = own })) b held) in
    let back : Each (At all) own (it ∷ []) = each-back (At all) b own inside (it ∷ []) long at in
    let there : own ≡ i = omega (arith, e) in
    let P : ℕ → Type 0 = λ j. slice_get all j ≡ Some it in
    subst P there back.0

law_at : (all : List Finished) (ns : List ℕ) → AreNumbered all ns → (above : NodeId) (p : Option PropId) (b : ℕ) (g : Grown) (i : ℕ) → i + 1 ≡ b + size g →
    Each (At all) b (finished (Some above) p b g) → (container : Finished) → slice_get all above.0 ≡ Some container →
    slice_index ns i + container.start ≡ slice_index ns above.0 + 1 + b
law_at all ns law above p b (Grow t s held) i e at container there =
    law.each i (root (Some above) p b (Grow t s held)) (omega arith) (last_is all (Some above) p b (Grow t s held) i e at) container there

mutual
  numbered_grown : (all : List Finished) (ns : List ℕ) → AreNumbered all ns → (above : Option NodeId) (p : Option PropId) (b n : ℕ) (g : Grown) (i : ℕ) →
      i + 1 ≡ b + size g → slice_index ns i ≡ n → Each (At all) b (finished above p b g) → Each (Reads ns) b (numbers n g)
  numbered_grown all ns law above p b n (Grow t s held) i e here at =
      let own : ℕ = b + size_of held in
      let inside : List Finished = finished_in (Some (record { 0 = own })) b held in
      let root : Finished = record { node = record { type_id = record { 0 = t }; container = above; prop = p; span = s }; start = b } in
      let long : own ≡ b + length inside = omega (arith, length-finished_in (Some (record { 0 = own })) b held) in
      let long' : own ≡ b + length (numbers_of (n + 1) held) = omega (arith, length-numbers_of (n + 1) held) in
      let back : Each (At all) own (root ∷ []) = each-back (At all) b own inside (root ∷ []) long at in
      let there : i ≡ own = omega (arith, e) in
      let P : ℕ → Type 0 = λ j. slice_index ns j ≡ n in
      let value : slice_index ns own ≡ n = subst P there here in
      each-append (Reads ns) b own (numbers_of (n + 1) held) (n ∷ []) long'
      (numbered_held all ns law own b n root held back.0 refl value (each-front (At all) b inside (root ∷ []) at))
      (value, tt)

  numbered_held : (all : List Finished) (ns : List ℕ) → AreNumbered all ns → (own b n : ℕ) (container : Finished) (held : Held) →
      slice_get all own ≡ Some container → container.start ≡ b → slice_index ns own ≡ n →
      Each (At all) b (finished_in (Some (record { 0 = own })) b held) → Each (Reads ns) b (numbers_of (n + 1) held)
  numbered_held all ns law own b n container Nothing there start value at = tt
  numbered_held all ns law own b n container (Puts held p v) there start value at = numbered_held all ns law own b n container held there start value at
  numbered_held all ns law own b n container (Points held p want name s) there start value at = numbered_held all ns law own b n container held there start value at
  numbered_held all ns law own b n container (Takes held p g) there start value at =
      let above : Option NodeId = Some (record { 0 = own }) in
      let before : List Finished = finished_in above b held in
      let m : ℕ = b + size_of held in
      let these : List Finished = finished above (Some (record { 0 = p })) m g in
      let long : m ≡ b + length before = omega (arith, length-finished_in above b held) in
      let long' : m ≡ b + length (numbers_of (n + 1) held) = omega (arith, length-numbers_of (n + 1) held) in
      let last : ℕ = m + size g - 1 in
      let e : last + 1 ≡ m + size g = omega (arith, size_positive g) in
      let back : Each (At all) m these = each-back (At all) b m before these long at in
      let sum : slice_index ns last + container.start ≡ slice_index ns own + 1 + m = law_at all ns law (record { 0 = own }) (Some (record { 0 = p })) m g last e back container there in
      let here : slice_index ns last ≡ (n + 1) + size_of held = omega (arith, sum, start, value) in
      each-append (Reads ns) b m (numbers_of (n + 1) held) (numbers ((n + 1) + size_of held) g) long'
      (numbered_held all ns law own b n container held there start value (each-front (At all) b before these at))
      (numbered_grown all ns law above (Some (record { 0 = p })) m ((n + 1) + size_of held) g last e here back)

zero_at_root : (g : Grown) (ns : List ℕ) (i : ℕ) → i + 1 ≡ 0 + size g → AreNumbered (finished None None 0 g) ns →
    Each (At (finished None None 0 g)) 0 (finished None None 0 g) → slice_index ns i ≡ 0
zero_at_root (Grow t s held) ns i e law at =
    let g : Grown = Grow t s held in
    law.each i (root None None 0 g) (omega arith) (last_is (finished None None 0 g) None None 0 g i e at)

-- a law of the numbers of a whole tree: they are its preorder
pub numbered : (g : Grown) (ns : List ℕ) → AreNumbered (finished None None 0 g) ns → Each (Reads ns) 0 (numbers 0 g)
numbered g ns law =
    let all : List Finished = finished None None 0 g in
    let last : ℕ = size g - 1 in
    let e : last + 1 ≡ 0 + size g = omega (arith, size_positive g) in
    let at : Each (At all) 0 all = each-from (At all) 0 all (itself all) in
    numbered_grown all ns law None None 0 0 g last e (zero_at_root g ns last e law at) at
