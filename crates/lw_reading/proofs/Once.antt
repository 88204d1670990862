-- A name among first uses has one place, and a name means one thing.
use Rattle.std.proofs.Common.{◌≡◌, ℕ, zero, suc, Bool, true, false, ◌||◌, List, [], ◌∷◌, Some, slice_get, bytes_eq, refl, sym, ap, subst, ◌∙◌, true≢false, if◌then◌else◌}
use Rattle.std.proofs.lemmas.Option.{none-some, same_Some}
use Rattle.std.specs.List.{list_any}
use Rattle.std.proofs.lemmas.Slice.Eq.{bytes_eq-Decides}
use Rattle.lw_grammar.specs.Kinds.{first_uses}

neither : (a b : Bool) → (a || b) ≡ false → b ≡ false
neither true b is = absurd (true≢false is)
neither false b is = is

-- a text that was seen before is not put in
not_seen : (seen xs : List (List ℕ)) (i : ℕ) (x : List ℕ) → slice_get (first_uses seen xs) i ≡ Some x → list_any (bytes_eq x) seen ≡ false
not_seen seen [] i x at = absurd (none-some x at)
not_seen seen (text ∷ xs) i x at = by (λ k. not_seen seen xs k x) (λ k. not_seen (text ∷ seen) xs k x) (list_any (bytes_eq text) seen) refl i at
  where
    by : ((k : ℕ) → slice_get (first_uses seen xs) k ≡ Some x → list_any (bytes_eq x) seen ≡ false) →
        ((k : ℕ) → slice_get (first_uses (text ∷ seen) xs) k ≡ Some x → list_any (bytes_eq x) (text ∷ seen) ≡ false) → (b : Bool) →
        list_any (bytes_eq text) seen ≡ b → (i : ℕ) → slice_get (if b then first_uses seen xs else text ∷ first_uses (text ∷ seen) xs) i ≡ Some x →
        list_any (bytes_eq x) seen ≡ false
    by old new true is i at = old i at
    by old new false is zero at = subst (λ y. list_any (bytes_eq y) seen ≡ false) (same_Some _ _ at) is
    by old new false is (suc i) at = neither (bytes_eq x text) (list_any (bytes_eq x) seen) (new i at)

pub one_place : (seen xs : List (List ℕ)) (i j : ℕ) (x : List ℕ) → slice_get (first_uses seen xs) i ≡ Some x → slice_get (first_uses seen xs) j ≡ Some x → i ≡ j
one_place seen [] i j x at was = absurd (none-some x at)
one_place seen (text ∷ xs) i j x at was =
    by (λ i j. one_place seen xs i j x) (λ i j. one_place (text ∷ seen) xs i j x) (list_any (bytes_eq text) seen) i j at was
  where
    listed : (k : ℕ) → slice_get (first_uses (text ∷ seen) xs) k ≡ Some text → ⊥
    listed k at = true≢false (sym (ap (λ b. b || list_any (bytes_eq text) seen) ((bytes_eq-Decides text text).1 refl)) ∙ not_seen (text ∷ seen) xs k text at)

    by : ((i j : ℕ) → slice_get (first_uses seen xs) i ≡ Some x → slice_get (first_uses seen xs) j ≡ Some x → i ≡ j) →
        ((i j : ℕ) → slice_get (first_uses (text ∷ seen) xs) i ≡ Some x → slice_get (first_uses (text ∷ seen) xs) j ≡ Some x → i ≡ j) → (b : Bool) (i j : ℕ) →
        slice_get (if b then first_uses seen xs else text ∷ first_uses (text ∷ seen) xs) i ≡ Some x →
        slice_get (if b then first_uses seen xs else text ∷ first_uses (text ∷ seen) xs) j ≡ Some x → i ≡ j
    by old new true i j at was = old i j at was
    by old new false zero zero at was = refl
    by old new false zero (suc j) at was = absurd (listed j (was ∙ sym at))
    by old new false (suc i) zero at was = absurd (listed i (at ∙ sym was))
    by old new false (suc i) (suc j) at was = ap suc (new i j at was)
