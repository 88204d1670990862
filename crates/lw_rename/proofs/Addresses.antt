-- The address of the document of a number.
use Rattle.std.proofs.Common.{◌≡◌, ◌≢◌, ℕ, ◌<◌, arith, ◌==◌, suc, zero, Bool, true, false, List, [], ◌∷◌, Some, slice_get, refl, sym, ap, ◌∙◌, ◌+◌, inl, inr}
use Rattle.std.specs.Prelude.{if◌then◌else◌}
use Rattle.std.proofs.lemmas.Bool.{cases_lt}
use Rattle.std.proofs.lemmas.Bool.Decides.{Decides-eqb}
use Rattle.std.proofs.lemmas.Option.{same_Some, none-some}
use Rattle.lw_query.specs.declared.view.View.{View}
use Rattle.lw_rename.specs.Afterwards.{AreApart}
use Rattle.lw_rename.specs.Leads.{address_among}
use Rattle.lw_rename.proofs.Listing.{not_both, one_at, pair_at}

choose : {A : Type 0} (x rest : A) (n m : ℕ) → n ≡ m → (if n == m then x else rest) ≡ x
choose x rest n m same = ap (λ (t : Bool). if t then x else rest) ((Decides-eqb n m).1 same)

pass : {A : Type 0} (x rest : A) (n m : ℕ) → n ≢ m → (if n == m then x else rest) ≡ rest
pass x rest n m apart = by (n == m) refl
  where
    by : (t : Bool) → (n == m) ≡ t → (if t then x else rest) ≡ rest
    by true same = absurd (apart ((Decides-eqb n m).0 same))
    by false unlike = refl

pub no_address : (views : List View) (n : ℕ) → ((k : ℕ) (v : View) → slice_get views k ≡ Some v → v.doc.0 ≢ n) → address_among views n ≡ []
no_address [] n none = refl
no_address (v ∷ views) n none = pass v.uri.now (address_among views n) v.doc.0 n (none 0 v refl) ∙ no_address views n (λ k w at. none (suc k) w at)

-- the first document of a number, where it was looked for
pub first_address : (views : List View) (n k : ℕ) (v : View) → slice_get views k ≡ Some v → v.doc.0 ≡ n →
    ((j : ℕ) (w : View) → j < k → slice_get views j ≡ Some w → w.doc.0 ≢ n) → address_among views n ≡ v.uri.now
first_address [] n k v at number before = absurd (none-some v at)
first_address (w ∷ views) n zero v at number before =
    let same = same_Some w v at in choose w.uri.now (address_among views n) w.doc.0 n (ap (λ (x : View). x.doc.0) same ∙ number) ∙ ap (λ (x : View). x.uri.now) same
first_address (w ∷ views) n (suc k) v at number before =
    pass w.uri.now (address_among views n) w.doc.0 n (before 0 w (omega arith) refl) ∙ first_address views n k v at number (λ j x below there. before (suc j) x (omega (arith, below)) there)

pub its_address : (views : List View) → AreApart views → (k : ℕ) (v : View) → slice_get views k ≡ Some v → address_among views v.doc.0 ≡ v.uri.now
its_address views apart k v at = first_address views v.doc.0 k v at refl before
  where
    before : (j : ℕ) (w : View) → j < k → slice_get views j ≡ Some w → w.doc.0 ≢ v.doc.0
    before j w below there = pair_at (λ v w. v.doc.0 ≢ w.doc.0) views j k w v apart.numbers below there at

pub is_doc : {n m : ℕ} → true ≡ (n == m) → n ≡ m
is_doc {n} {m} same = (Decides-eqb n m).0 (sym same)

pub is_other_doc : {n m : ℕ} → false ≡ (n == m) → n ≢ m
is_other_doc {n} {m} unlike same = not_both ((Decides-eqb n m).1 same) (sym unlike)

-- no document below a place has the number, and the one there has not
pub not_below_more : (views : List View) (n i : ℕ) (v : View) → slice_get views i ≡ Some v → v.doc.0 ≢ n →
    ((k : ℕ) (w : View) → k < i → slice_get views k ≡ Some w → w.doc.0 ≢ n) → (k : ℕ) (w : View) → k < i + 1 → slice_get views k ≡ Some w → w.doc.0 ≢ n
not_below_more views n i v at other before k w below there = elim (cases_lt k i) [
  | inl lower ↦ before k w lower there
  | inr up ↦
      let place : i ≡ k = omega (arith, below, up) in
      let one = one_at views k v w (ap (slice_get views) (sym place) ∙ at) there in
      λ same. other (ap (λ (x : View). x.doc.0) one ∙ same)
]
