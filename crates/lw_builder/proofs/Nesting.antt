-- The finished nodes of a tree are nested.
use Rattle.std.proofs.Common.{ℕ, ◌≡◌, ◌+◌, ◌-◌, ◌≤◌, ◌<◌, Option, Some, None, List, [], ◌∷◌, length, refl, subst, arith}
use Rattle.std.specs.Prelude.{slice_get}
use Rattle.lw_base.specs.declared.numbers.NodeId.{NodeId}
use Rattle.lw_base.specs.declared.numbers.PropId.{PropId}
use Rattle.lw_builder.specs.declared.preorder.finished.Finished.{Finished}
use Rattle.lw_reading.specs.Grown.{Grown, Grow, Held, Nothing, Puts, Takes, Points, size, size_of}
use Rattle.lw_builder.specs.Finishing.{finished, finished_in, StandsInNode, IsNested, AreNested}
use Rattle.lw_builder.proofs.Each.{Each, each-append, each-front, each-back, each-at, each-from}
use Rattle.lw_builder.proofs.PreorderLengths.{length-finished, length-finished_in, size_positive}
use Rattle.lw_builder.proofs.Each.{At, itself}

mutual
  nested_grown : (all : List Finished) (above : Option NodeId) (p : Option PropId) (b : ℕ) (g : Grown) (i : ℕ) → i + 1 ≡ b + size g →
      StandsInNode all i b above → Each (At all) b (finished above p b g) → Each (IsNested all) b (finished above p b g)
  nested_grown all above p b (Grow t s held) i e stands at =
      let own : ℕ = b + size_of held in
      let inside : List Finished = finished_in (Some (record { 0 = own })) b held in
      let root : Finished = record { node = record { type_id = record { 0 = t }; container = above; prop = p; span = s }; start = b } in
      let long : own ≡ b + length inside = omega (arith, length-finished_in (Some (record { 0 = own })) b held) in
      let back : Each (At all) own (root ∷ []) = each-back (At all) b own inside (root ∷ []) long at in
      let P : ℕ → Type 0 = λ j. StandsInNode all j b above in
      let there : i ≡ own = omega (arith, e) in
      each-append (IsNested all) b own inside (root ∷ []) long
      (nested_held all own b root held back.0 refl (omega arith) (each-front (At all) b inside (root ∷ []) at))
      (record { starts = omega arith; stands = subst P there stands }, tt)

  nested_held : (all : List Finished) (own b : ℕ) (container : Finished) (held : Held) → slice_get all own ≡ Some container → container.start ≡ b →
      b + size_of held ≤ own → Each (At all) b (finished_in (Some (record { 0 = own })) b held) → Each (IsNested all) b (finished_in (Some (record { 0 = own })) b held)
  nested_held all own b container Nothing there start room at = tt
  nested_held all own b container (Puts held p v) there start room at = nested_held all own b container held there start room at
  nested_held all own b container (Points held p want name s) there start room at = nested_held all own b container held there start room at
  nested_held all own b container (Takes held p g) there start room at =
      let above : Option NodeId = Some (record { 0 = own }) in
      let before : List Finished = finished_in above b held in
      let n : ℕ = b + size_of held in
      let these : List Finished = finished above (Some (record { 0 = p })) n g in
      let long : n ≡ b + length before = omega (arith, length-finished_in above b held) in
      let last : ℕ = n + size g - 1 in
      let e : last + 1 ≡ n + size g = omega (arith, size_positive g) in
      let lt : last < own = omega (arith, e, room) in
      let le : container.start ≤ n = omega (arith, start) in
      each-append (IsNested all) b n before these long
      (nested_held all own b container held there start (omega (arith, room)) (each-front (At all) b before these at))
      (nested_grown all above (Some (record { 0 = p })) n g last e (lt, container, there, le) (each-back (At all) b n before these long at))

pub nested : (g : Grown) → AreNested (finished None None 0 g)
nested g =
    let all : List Finished = finished None None 0 g in
    let last : ℕ = size g - 1 in
    let e : last + 1 ≡ 0 + size g = omega (arith, size_positive g) in
    let stands : StandsInNode all last 0 None = omega (arith, e, length-finished None None 0 g) in
    let each : Each (IsNested all) 0 all = nested_grown all None None 0 g last e stands (each-from (At all) 0 all (itself all)) in
    λ i x at. each-at (IsNested all) 0 i all i x (omega arith) each at
