-- Where each name stands at its first use alone, it has one number, and that is found by its text.
use Rattle.std.proofs.Common.{◌≡◌, ℕ, zero, suc, List, [], ◌∷◌, Bool, true, false, ◌||◌, if◌then◌else◌, Option, Some, None, MatchOption, option_map, slice_get, position, bytes_eq, refl, sym, ap, ◌∙◌, subst, true≢false}
use Rattle.std.proofs.lemmas.Option.{none-some, same_Some}
use Rattle.std.proofs.lemmas.Slice.Eq.{bytes_eq-Decides}
use Rattle.lw_base.specs.declared.numbers.TypeId.{TypeId}
use Rattle.lw_grammar.specs.declared.grammar.Grammar.{Grammar}
use Rattle.lw_grammar.specs.Kinds.{first_uses}
use Rattle.lw_grammar.proofs.FirstUses.{stands_in}
use Rattle.lw_kinds.proofs.TokenCalls.{got_there}
use Rattle.lw_reading.specs.Numbers.{IsNumberOfType}
use Rattle.lw_numbers.proofs.Reaching.{has_place, at_place}

neither : (a b : Bool) → (a || b) ≡ false → (a ≡ false) × (b ≡ false)
neither true b is = absurd (true≢false is)
neither false b is = (refl, is)

-- what was seen before stands nowhere among the first uses
unseen : (seen xs : List (List ℕ)) (i : ℕ) (x : List ℕ) → slice_get (first_uses seen xs) i ≡ Some x → stands_in x seen ≡ false
unseen seen [] i x is = absurd (none-some x is)
unseen seen (y ∷ ys) i x is = by (λ i x. unseen seen ys i x) (λ i x. unseen (y ∷ seen) ys i x) (stands_in y seen) refl i x is
  where
    by : ((i : ℕ) (x : List ℕ) → slice_get (first_uses seen ys) i ≡ Some x → stands_in x seen ≡ false) →
        ((i : ℕ) (x : List ℕ) → slice_get (first_uses (y ∷ seen) ys) i ≡ Some x → stands_in x (y ∷ seen) ≡ false) → (b : Bool) → stands_in y seen ≡ b → (i : ℕ) (x : List ℕ) →
        slice_get (if b then first_uses seen ys else y ∷ first_uses (y ∷ seen) ys) i ≡ Some x → stands_in x seen ≡ false
    by old new true was i x is = old i x is
    by old new false was zero x is = subst (λ x. stands_in x seen ≡ false) (same_Some y x is) was
    by old new false was (suc i) x is = (neither (bytes_eq x y) (stands_in x seen) (new i x is)).1

pub one_place : (seen xs : List (List ℕ)) (i j : ℕ) (x : List ℕ) → slice_get (first_uses seen xs) i ≡ Some x → slice_get (first_uses seen xs) j ≡ Some x → i ≡ j
one_place seen [] i j x is was = absurd (none-some x is)
one_place seen (y ∷ ys) i j x is was = by (λ i j. one_place seen ys i j x) (λ i j. one_place (y ∷ seen) ys i j x) (stands_in y seen) i j is was
  where
    later : (i : ℕ) → Some y ≡ Some x → slice_get (first_uses (y ∷ seen) ys) i ≡ Some x → ⊥
    later i is was =
        let apart = (neither (bytes_eq x y) (stands_in x seen) (unseen (y ∷ seen) ys i x was)).0 in
        true≢false (sym ((bytes_eq-Decides x y).1 (sym (same_Some y x is))) ∙ apart)

    by : ((i j : ℕ) → slice_get (first_uses seen ys) i ≡ Some x → slice_get (first_uses seen ys) j ≡ Some x → i ≡ j) →
        ((i j : ℕ) → slice_get (first_uses (y ∷ seen) ys) i ≡ Some x → slice_get (first_uses (y ∷ seen) ys) j ≡ Some x → i ≡ j) → (b : Bool) → (i j : ℕ) →
        slice_get (if b then first_uses seen ys else y ∷ first_uses (y ∷ seen) ys) i ≡ Some x →
        slice_get (if b then first_uses seen ys else y ∷ first_uses (y ∷ seen) ys) j ≡ Some x → i ≡ j
    by old new true i j is was = old i j is was
    by old new false zero zero is was = refl
    by old new false zero (suc j) is was = absurd (later j is was)
    by old new false (suc i) zero is was = absurd (later i was is)
    by old new false (suc i) (suc j) is was = ap suc (new i j is was)

pub one_type_number : (g : Grammar) (name : List ℕ) (m n : ℕ) → IsNumberOfType g name m → IsNumberOfType g name n → m ≡ n
one_type_number g name m n is was = one_place [] _ m n name is was

pub number_told : {Id : Type 0} (number : Id → ℕ) (names : List (List ℕ)) (name : List ℕ) (found : Option Id) → option_map number found ≡ position (bytes_eq name) names →
    MatchOption found ((n : ℕ) → ¬ (slice_get names n ≡ Some name)) (λ id. slice_get names (number id) ≡ Some name)
number_told number names name None is =
    λ n at. let found = has_place names name (got_there names n name at) in none-some found.0 (is ∙ found.1)
number_told number names name (Some id) is = at_place names name (number id) (sym is)

-- the number that is found is any number that the name has
pub found_number : (g : Grammar) (name : List ℕ) (n : ℕ) (found : Option TypeId) → MatchOption found ((n : ℕ) → ¬ IsNumberOfType g name n) (λ id. IsNumberOfType g name id.0) →
    IsNumberOfType g name n → found ≡ Some (record { 0 = n })
found_number g name n None none is = absurd (none n is)
found_number g name n (Some id) was is = ap (λ (n : ℕ). Some (record { 0 = n })) (one_type_number g name id.0 n was is)
