-- One more place numbered, from the last to the first.
use Rattle.std.proofs.Common.{ℕ, ◌≡◌, ◌≢◌, ◌+◌, ◌-◌, ◌≤◌, ◌<◌, Option, Some, None, List, length, get_or, ⊎_elim, sym, subst, ap, ◌∙◌, arith}
use Rattle.std.proofs.Math.ListN.{set, length-set}
use Rattle.std.proofs.lemmas.List.{get_or-set_same, get_or-set_other, get_or_default}
use Rattle.std.proofs.lemmas.Option.{slice_get-get_or, get_or_from_slice_get, slice_get_within}
use Rattle.std.proofs.lemmas.Bool.{cases_lt}
use Rattle.std.specs.Prelude.{slice_get, slice_index}
use Rattle.lw_base.specs.declared.numbers.NodeId.{NodeId}
use Rattle.lw_builder.specs.declared.preorder.finished.Finished.{Finished}
use Rattle.lw_builder.specs.Finishing.{AreNested, StandsInNode, NumberedIn, AreNumberedFrom}

-- a write at a place before the container changes nothing of what a node's number says
kept : (all : List Finished) (numbers : List ℕ) (k m i n : ℕ) (x : Finished) (o : Option NodeId) → k < i → StandsInNode all i x.start o →
    NumberedIn all numbers x n o → NumberedIn all (set numbers k m) x n o
kept all numbers k m i n x None lt stands h = h
kept all numbers k m i n x (Some above) lt stands h = λ container at.
    let ne : above.0 ≢ k = omega (arith, stands.0) in
    rw (get_or-set_other numbers k above.0 m 0 ne) (h container at)

own : (all : List Finished) (numbers : List ℕ) (k m n : ℕ) (x : Finished) (o : Option NodeId) → StandsInNode all k x.start o → NumberedIn all numbers x n o →
    NumberedIn all (set numbers k m) x n o
own all numbers k m n x None stands h = h
own all numbers k m n x (Some above) stands h = λ container at.
    let ne : above.0 ≢ k = omega (arith, stands.0) in
    rw (get_or-set_other numbers k above.0 m 0 ne) (h container at)

here : (all : List Finished) (numbers : List ℕ) (k n i : ℕ) (x y : Finished) → AreNested all → slice_get all k ≡ Some x →
    NumberedIn all numbers x n x.node.container → k < length numbers → i ≡ k → slice_get all i ≡ Some y →
    NumberedIn all (set numbers k n) y (get_or (set numbers k n) i 0) y.node.container
here all numbers k n i x y nested at numbered len e there =
    let same : x ≡ y = cc in
    let P : ℕ → Type 0 = λ j. NumberedIn all (set numbers k n) y (get_or (set numbers k n) j 0) y.node.container in
    subst P (sym e) (rw (get_or-set_same numbers k n 0 len)
    (let Q : Finished → Type 0 = λ z. NumberedIn all (set numbers k n) z n z.node.container in
    subst Q same (own all numbers k n n x x.node.container (nested k x at).stands numbered)))

pub one_more : (all : List Finished) (numbers : List ℕ) (k n : ℕ) (x : Finished) → AreNested all → slice_get all k ≡ Some x →
    NumberedIn all numbers x n x.node.container → n + k + 1 ≤ length all + x.start → k < length all → AreNumberedFrom all numbers (k + 1) →
    AreNumberedFrom all (set numbers k n) k
one_more all numbers k n x nested at numbered fits within before =
    let len : k < length numbers = omega (arith, before.as_many) in
    record {
      as_many = length-set numbers k n ∙ before.as_many;
      each = λ i y le there. ⊎_elim
          (λ lt. let ne : i ≢ k = omega (arith, lt) in
          let next : k + 1 ≤ i = omega (arith, lt) in
          rw (get_or-set_other numbers k i n 0 ne)
          (kept all numbers k n i (slice_index numbers i) y y.node.container lt (nested i y there).stands (before.each i y next there)))
          (λ ge. here all numbers k n i x y nested at numbered len (omega (arith, ge, le)) there)
          (cases_lt k i);
      fits = λ i y le there. ⊎_elim
          (λ lt. let ne : i ≢ k = omega (arith, lt) in
          let next : k + 1 ≤ i = omega (arith, lt) in
          rw (get_or-set_other numbers k i n 0 ne) (before.fits i y next there))
          (λ ge. let e : i ≡ k = omega (arith, ge, le) in
          let same : x ≡ y = cc in
          let v : get_or (set numbers k n) i 0 ≡ n = ap (λ j. get_or (set numbers k n) j 0) e ∙ get_or-set_same numbers k n 0 len in
          omega (arith, v, ap (λ (z : Finished). z.start) same, fits, e))
          (cases_lt k i);
    }

-- a node that stands in another, as it is met
pub child_more : (all : List Finished) (numbers : List ℕ) (k n m : ℕ) (above : NodeId) (d e : Finished) → AreNested all →
    (get_or all k d).node.container ≡ Some above → m ≡ get_or numbers above.0 m → k < length all →
    n ≡ m + 1 + ((get_or all k d).start - (get_or all above.0 e).start) → AreNumberedFrom all numbers (k + 1) →
    AreNumberedFrom all (set numbers k n) k
child_more all numbers k n m above d e nested is value within sum before =
    let x : Finished = get_or all k d in
    let at : slice_get all k ≡ Some x = slice_get-get_or all k d within in
    let P : Option NodeId → Type 0 = λ o. StandsInNode all k x.start o in
    let stands : StandsInNode all k x.start (Some above) = subst P is (nested k x at).stands in
    let container : Finished = stands.1 in
    let there : slice_get all above.0 ≡ Some container = stands.2 in
    let same : get_or all above.0 e ≡ container = get_or_from_slice_get all above.0 container e there in
    let lt : above.0 < length all = slice_get_within all above.0 container there in
    let long : length numbers ≡ length all = before.as_many in
    let zero : m ≡ get_or numbers above.0 0 = value ∙ get_or_default numbers above.0 m 0 (omega (arith, lt, long)) in
    let Q : Option NodeId → Type 0 = λ o. NumberedIn all numbers x n o in
    let sum' : n + container.start ≡ get_or numbers above.0 0 + 1 + x.start =
    omega (arith, sum, ap (λ (z : Finished). z.start) same, stands.3, zero) in
    let fit : get_or numbers above.0 0 + above.0 + 1 ≤ length all + container.start = before.fits above.0 container (omega (arith, stands.0)) there in
    one_more all numbers k n x nested at
    (subst Q (sym is) (λ c at_c. let same_c : container ≡ c = cc in omega (arith, sum', ap (λ (z : Finished). z.start) same_c)))
    (omega (arith, sum', fit, stands.0)) within before
