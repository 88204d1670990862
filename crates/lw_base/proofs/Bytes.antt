-- The bytes of a text are below 256.
use Rattle.std.proofs.Common.{ℕ, ◌≡◌, ◌+◌, ◌/◌, ◌<◌, ◌≤◌, ◌&&◌, List, [], ◌∷◌, Bool, true, false, cond, All, IsUtf8, refl, sym, subst, ⊎_elim, true≢false, arith}
use Rattle.std.proofs.Math.Dec.{ltb}
use Rattle.std.proofs.Math.Utf8.{encode, encodes, next, scalar, scalars, scalar_cases}
use Rattle.std.proofs.lemmas.Bool.{ltb-true}
use Rattle.std.proofs.lemmas.List.Elements.{All-append, All-cons, All-nil}

abbrev Small : ℕ → Type 0
Small b = b < 256

small_next : (bits : ℕ) → Small (next bits)
small_next bits = omega arith

all_1 : (a : ℕ) → Small a → All Small (a ∷ [])
all_1 a h = All-cons Small a [] h (All-nil Small)

module _ (c : ℕ) (below : c < 1114112) where
  by : (x y z : Bool) → (x ≡ true → c < 128) → (y ≡ true → c < 2048) → (z ≡ true → c < 65536) → All Small
      (cond x (c ∷ []) (cond y ((192 + c / 64) ∷ next c ∷ []) (cond z ((224 + c / 4096) ∷ next (c / 64) ∷ next c ∷ [])
      ((240 + c / 262144) ∷ next (c / 4096) ∷ next (c / 64) ∷ next c ∷ []))))
  by true y z one two three = all_1 c (let h : c < 128 = one refl in omega (arith, h))
  by false true z one two three = All-cons Small (192 + c / 64) (next c ∷ []) (let h : c < 2048 = two refl in omega (arith, h)) (all_1 (next c) (small_next c))
  by false false true one two three =
      All-cons Small (224 + c / 4096) (next (c / 64) ∷ next c ∷ []) (let h : c < 65536 = three refl in omega (arith, h))
      (All-cons Small (next (c / 64)) (next c ∷ []) (small_next (c / 64)) (all_1 (next c) (small_next c)))
  by false false false one two three =
      All-cons Small (240 + c / 262144) (next (c / 4096) ∷ next (c / 64) ∷ next c ∷ []) (omega (arith, below))
      (All-cons Small (next (c / 4096)) (next (c / 64) ∷ next c ∷ []) (small_next (c / 4096))
      (All-cons Small (next (c / 64)) (next c ∷ []) (small_next (c / 64)) (all_1 (next c) (small_next c))))

  small_encode : All Small (encode c)
  unfolding encode
  small_encode = by (ltb c 128) (ltb c 2048) (ltb c 65536) (ltb-true c 128) (ltb-true c 2048) (ltb-true c 65536)

scalar_below : (c : ℕ) → scalar c ≡ true → c < 1114112
scalar_below c is = ⊎_elim (λ (low : c < 55296). let h : c < 1114112 = omega (arith, low) in h) (λ (high : (57344 ≤ c) × (c < 1114112)). high.1) (scalar_cases c is)

both : (x y : Bool) → (x && y) ≡ true → (x ≡ true) × (y ≡ true)
both true true is = (refl, refl)
both true false is = absurd (true≢false (sym is))
both false y is = absurd (true≢false (sym is))

small_encodes : (cs : List ℕ) → scalars cs ≡ true → All Small (encodes cs)
small_encodes [] is = All-nil Small
small_encodes (c ∷ cs) is =
    let (first, rest) = both (scalar c) (scalars cs) is in
    All-append Small (encode c) (encodes cs) (small_encode c (scalar_below c first)) (small_encodes cs rest)

pub utf8_small : (bs : List ℕ) → IsUtf8 bs → All (λ b. b < 256) bs
utf8_small bs (cs, (are_scalars, are)) = subst (All Small) are (small_encodes cs are_scalars)
