-- Lists whose numbers ascend, and their first number that passes.
use Rattle.std.proofs.Common.{ℕ, zero, suc, ◌≡◌, ◌+◌, ◌≤◌, ◌<◌, Bool, true, false, cond, List, [], ◌∷◌, Some, Contains, map, filter, slice_get, sym, inl, inr, ap, ◌∙◌, arith}
use Rattle.std.specs.Prelude.{if◌then◌else◌}
use Rattle.std.proofs.lemmas.Bool.{cases_lt}
use Rattle.std.proofs.lemmas.Option.{same_Some, slice_get-get_or}
use Rattle.lw_scoping.proofs.Places.{among}
use Rattle.lw_base.specs.declared.numbers.NodeId.{NodeId}
use Rattle.lw_grammar.specs.Named.{IsFirst}
use Rattle.lw_tree.specs.declared.node.Node.{Node}
use Rattle.lw_tree.specs.Parts.{children_from, is_inside}

-- from this number on
pub data Rises : ℕ → List ℕ → Type 0 where
  done : {low : ℕ} → Rises low []
  more : {low k : ℕ} {ks : List ℕ} → low ≤ k → Rises (k + 1) ks → Rises low (k ∷ ks)

lower : {low from : ℕ} {ks : List ℕ} → from ≤ low → Rises low ks → Rises from ks
lower le done = done
lower le (more up rest) = more (omega (arith, le, up)) rest

filtered : (p : ℕ → Bool) {low : ℕ} (ks : List ℕ) → Rises low ks → Rises low (filter p ks)
filtered p [] done = done
filtered p {low} (k ∷ ks) (more up rest) = by (p k) (filtered p {low = k + 1} ks rest)
  where
    by : (b : Bool) → Rises (k + 1) (filter p ks) → Rises low (cond b (k ∷ filter p ks) (filter p ks))
    by true rises = more up rises
    by false rises = lower (omega (arith, up)) rises

abbrev numbers : List NodeId → List ℕ
numbers cs = map (λ (c : NodeId). c.0) cs

children_rise : (n i : ℕ) (xs : List Node) → Rises i (numbers (children_from n i xs))
children_rise n i [] = done
children_rise n i (x ∷ xs) = by (is_inside n x.container) (children_rise n (i + 1) xs)
  where
    by : (b : Bool) → Rises (i + 1) (numbers (children_from n (i + 1) xs)) →
        Rises i (numbers (if b then record { 0 = i } ∷ children_from n (i + 1) xs else children_from n (i + 1) xs))
    by true rises = more (omega arith) rises
    by false rises = lower (omega arith) rises

pub named_rise : (p : ℕ → Bool) (n : ℕ) (xs : List Node) → Rises 0 (filter p (numbers (children_from n 0 xs)))
named_rise p n xs = filtered p (numbers (children_from n 0 xs)) (children_rise n 0 xs)

at_least : {low : ℕ} (ks : List ℕ) (j y : ℕ) → Rises low ks → slice_get ks j ≡ Some y → low ≤ y
at_least [] j y rises at = absurd (nothing j at)
  where
    nothing : (j : ℕ) → slice_get {X = ℕ} [] j ≡ Some y → ⊥
    nothing zero at = cc
    nothing (suc j) at = cc
at_least {low = low} (k ∷ ks) zero y (more up rest) at = omega (arith, up, same_Some k y at)
at_least {low = low} (k ∷ ks) (suc j) y (more up rest) at = omega (arith, up, at_least {low = k + 1} ks j y rest at)

apart : {low : ℕ} (ks : List ℕ) (j i y x : ℕ) → Rises low ks → j < i → slice_get ks j ≡ Some y → slice_get ks i ≡ Some x → y < x
apart ks j zero y x rises lt at is = absurd (omega (arith, lt))
apart [] j (suc i) y x rises lt at is = absurd (omega (arith, at_least {low = x + 1} [] (suc i) x done is))
apart {low = low} (k ∷ ks) zero (suc i) y x (more up rest) lt at is = omega (arith, same_Some k y at, at_least {low = k + 1} ks i x rest is)
apart {low = low} (k ∷ ks) (suc j) (suc i) y x (more up rest) lt at is = apart {low = k + 1} ks j i y x rest (omega (arith, lt)) at is

-- the least that passes is the first
pub first_least : {passes : ℕ → Type 0} {low : ℕ} (ks : List ℕ) (x : ℕ) → Rises low ks → Contains ks x → passes x →
    ((y : ℕ) → Contains ks y → passes y → x ≤ y) → (i : ℕ) × IsFirst passes ks i x
first_least {passes} ks x rises (i, inside, is) does least =
    let at : slice_get ks i ≡ Some x = slice_get-get_or ks i x inside ∙ ap Some is in
    (i, record { there = at; does = does; none_before = λ j y lt was fits. omega (arith, apart ks j i y x rises lt was at, least y (among ks j y was) fits) })

-- the first that passes is the least
pub least_first : {passes : ℕ → Type 0} {low : ℕ} (ks : List ℕ) (i x : ℕ) → Rises low ks → IsFirst passes ks i x → (y : ℕ) → Contains ks y → passes y → x ≤ y
least_first {low = low} ks i x rises first y (j, inside, is) does =
    let at : slice_get ks j ≡ Some y = slice_get-get_or ks j y inside ∙ ap Some is in
    elim (cases_lt j i) [
      | inl lt ↦ absurd (first.none_before j y lt at does)
      | inr ge ↦ elim (cases_lt i j) [
        | inl gt ↦ omega (arith, apart {low = low} ks i j x y rises gt first.there at)
        | inr le ↦
            let same : i ≡ j = omega (arith, ge, le) in
            omega (arith, same_Some x y (sym first.there ∙ ap (λ (k : ℕ). slice_get ks k) same ∙ at))
      ]
    ]
