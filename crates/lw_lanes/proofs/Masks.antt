-- Masks of one block: of a comparison with one number, and two of them laid over each other.
use Rattle.std.proofs.Common.{Bool, true, false, ◌||◌, cond, ◌≡◌, ◌∙◌, ap, ap₂, ℕ, ◌+◌, ◌-◌, ◌*◌, ◌/◌, ◌%◌, ◌^◌, nat_le, List, [], ◌∷◌, length, map, replicate, bit_or, w8, refl, arith}
use Rattle.std.specs.Int.Bits.{or_step}
use Rattle.std.specs.Simd.Lanes.{mask_l, top, zip2}
use mir.Val.{bits, hbits}
use Rattle.std.proofs.lemmas.List.{length-map}
use Rattle.std.proofs.lemmas.Simd.{tops_compared, zip2_splat_left, mask_l-mod}
use Prim.Native.Nat.{max}

-- the mask without its lowest bit, and that bit
upper : (b : Bool) (m : ℕ) → (cond b 1 0 + 2 * m) / 2 ≡ m
upper true m = omega arith
upper false m = omega arith

lowest : (b : Bool) (m : ℕ) → (cond b 1 0 + 2 * m) % 2 ≡ cond b 1 0
lowest true m = omega arith
lowest false m = omega arith

or_lowest : (b c : Bool) → max (cond b 1 0) (cond c 1 0) ≡ cond (b || c) 1 0
or_lowest true true = refl
or_lowest true false = refl
or_lowest false true = refl
or_lowest false false = refl

or_bits : (b c : Bool) (m n : ℕ) → bit_or (cond b 1 0 + 2 * m) (cond c 1 0 + 2 * n) ≡ cond (b || c) 1 0 + 2 * bit_or m n
or_bits b c m n =
    let both = or_step (cond b 1 0 + 2 * m) (cond c 1 0 + 2 * n) in
    let over : bit_or ((cond b 1 0 + 2 * m) / 2) ((cond c 1 0 + 2 * n) / 2) ≡ bit_or m n = ap₂ bit_or (upper b m) (upper c n) in
    let low : max ((cond b 1 0 + 2 * m) % 2) ((cond c 1 0 + 2 * n) % 2) ≡ cond (b || c) 1 0 = ap₂ max (lowest b m) (lowest c n) ∙ or_lowest b c in
    omega (arith, both, over, low)

pub or-mask_l : (p q : ℕ → Bool) (xs : List ℕ) → bit_or (mask_l (map p xs)) (mask_l (map q xs)) ≡ mask_l (map (λ x. p x || q x) xs)
or-mask_l p q [] = refl
or-mask_l p q (x ∷ xs) =
    or_bits (p x) (q x) (mask_l (map p xs)) (mask_l (map q xs)) ∙ ap (λ (m : ℕ). cond (p x || q x) 1 0 + 2 * m) (or-mask_l p q xs)

-- the mask of what a number, in every lane, is at most
pub splat_le-mask_l : (limit : ℕ) (xs : List ℕ) → length xs ≡ 32 → mask_l (map (top (hbits w8)) (zip2 (λ a b. cond (nat_le a b) (2 ^ bits w8 - 1) 0) (replicate 32 limit) xs)) % 2 ^ 64 ≡ mask_l (map (nat_le limit) xs)
splat_le-mask_l limit xs long =
    ap (λ (ms : List Bool). mask_l ms % 2 ^ 64) (tops_compared w8 nat_le (replicate 32 limit) xs ∙ zip2_splat_left nat_le limit 32 xs long)
    ∙ mask_l-mod (map (nat_le limit) xs) 64 (omega (arith, length-map xs (nat_le limit)))
