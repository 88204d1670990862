-- Counts by tests that are made of other tests.
use Rattle.std.proofs.Common.{Bool, ◌≡◌, ◌∙◌, ap, ap₂, sym, ◌+◌, ◌*◌, ◌/◌, ◌%◌, ◌<◌, ◌≤◌, Fits, w8, map, ℕ, zero, suc, List, [], ◌∷◌, length, take, drop, count_by, sum_by, cond, nat_lt, take-add, refl, arith}
use Rattle.std.specs.Simd.{first_chunks}
use Rattle.std.specs.Simd.Lanes.{Each1}
use Rattle.std.proofs.lemmas.Bool.Decides.{nat_tests}
use Rattle.std.proofs.lemmas.Grind.{common_steps}
use Rattle.std.proofs.lemmas.List.Sums.{sum_by-cons, sum_by-append, sum_by-take-drop}
use Rattle.lw_lanes.specs.Utf8.{begins_character}

-- raised by 64, the bytes from 128 to 191, and no others, are 192 or more
raised_below : (byte : ℕ) → byte < 256 → nat_lt ((byte + 64) % 256) 192 ≡ begins_character byte
raised_below byte fits = grind (arith, nat_tests)

pub count-raised : (bytes : List ℕ) → Each1 (Fits w8) bytes → count_by (λ byte. nat_lt byte 192) (map (λ byte. (byte + 64) % 256) bytes) ≡ count_by begins_character bytes
count-raised [] fit = refl
count-raised (x ∷ xs) fit =
    sum_by-cons (λ byte. cond (nat_lt byte 192) 1 0) ((x + 64) % 256) (map (λ byte. (byte + 64) % 256) xs)
    ∙ ap₂ ◌+◌ (ap (λ (test : Bool). cond test 1 0) (raised_below x fit.0.fits)) (count-raised xs fit.1)
    ∙ sym (sum_by-cons (λ byte. cond (begins_character byte) 1 0) x xs)

pub sum-of_two : (p q : ℕ → Bool) (xs : List ℕ) → sum_by (λ x. cond (p x) 1 0 + cond (q x) 1 0) xs ≡ count_by p xs + count_by q xs
sum-of_two p q [] = refl
sum-of_two p q (x ∷ xs) = grind (arith, common_steps, sum-of_two p q xs)

pub sum-at_most_two : (f : ℕ → ℕ) → ((x : ℕ) → f x ≤ 2) → (xs : List ℕ) → sum_by f xs ≤ 2 * length xs
sum-at_most_two f most [] = omega arith
sum-at_most_two f most (x ∷ xs) = omega (arith, most x, sum_by-cons f x xs, sum-at_most_two f most xs)

-- the sum over the blocks is the sum over what they were cut from
pub sum-first_chunks : (f : ℕ → ℕ) (n k : ℕ) (xs : List ℕ) → sum_by (λ (block : List ℕ). sum_by f block) (first_chunks n k xs) ≡ sum_by f (take (k * n) xs)
sum-first_chunks f n zero xs = let none : 0 * n ≡ 0 = omega arith in rw none refl
sum-first_chunks f n (suc k) xs =
    let more : suc k * n ≡ n + k * n = omega arith in
    rw (more, take-add n (k * n) xs) (
    sum_by-cons (λ (block : List ℕ). sum_by f block) (take n xs) (first_chunks n k (drop n xs))
    ∙ ap (λ (m : ℕ). sum_by f (take n xs) + m) (sum-first_chunks f n k (drop n xs))
    ∙ sym (sum_by-append f (take n xs) (take (k * n) (drop n xs)))
    )

-- the sums over what `as_chunks` gives
pub sum-as_chunks : (f : ℕ → ℕ) (n : ℕ) (xs rest : List ℕ) (blocks : List (List ℕ)) → blocks ≡ first_chunks n (length xs / n) xs → rest ≡ drop (length xs / n * n) xs → sum_by (λ (block : List ℕ). sum_by f block) blocks + sum_by f rest ≡ sum_by f xs
sum-as_chunks f n xs rest blocks front back =
    rw (front, back) (
    ap (λ (m : ℕ). m + sum_by f (drop (length xs / n * n) xs)) (sum-first_chunks f n (length xs / n) xs)
    ∙ sum_by-take-drop f xs (length xs / n * n)
    )
