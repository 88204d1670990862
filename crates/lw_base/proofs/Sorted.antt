-- Two lists in a strict order that hold the same are equal.
use Rattle.std.proofs.Common.{◌≡◌, zero, suc, List, [], ◌∷◌, ◌⊎◌, inl, inr, Contains, AllPairs, refl, sym, ap₂, ◌∙◌, subst, arith}

module _ {X : Type 0} (R : X → X → Type 0) (strict : (x y : X) → R x y → R y x → ⊥) where
  behind_head : (x : X) (xs : List X) → AllPairs R (x ∷ xs) → (y : X) → Contains xs y → R x y
  behind_head x xs sorted y (k, inside, is) = subst (R x) is (sorted 0 (suc k) y (omega arith) (omega (arith, inside)))

  tail_sorted : (x : X) (xs : List X) → AllPairs R (x ∷ xs) → AllPairs R xs
  tail_sorted x xs sorted i j d below inside = sorted (suc i) (suc j) d (omega (arith, below)) (omega (arith, inside))

  head_or_later : (x : X) (xs : List X) (y : X) → Contains (x ∷ xs) y → (x ≡ y) ⊎ Contains xs y
  head_or_later x xs y (zero, inside, is) = inl is
  head_or_later x xs y (suc k, inside, is) = inr (k, omega (arith, inside), is)

  abbrev HoldsAll : List X → List X → Type 0
  HoldsAll xs ys = (z : X) → Contains xs z → Contains ys z

  first_of : (x : X) (xs : List X) → Contains (x ∷ xs) x
  first_of x xs = (0, omega arith, refl)

  same_heads : (x y : X) (xs ys : List X) → AllPairs R (x ∷ xs) → AllPairs R (y ∷ ys) → Contains (y ∷ ys) x → Contains (x ∷ xs) y → x ≡ y
  same_heads x y xs ys one other has had = by (head_or_later y ys x has) (head_or_later x xs y had)
    where
      by : (y ≡ x) ⊎ Contains ys x → (x ≡ y) ⊎ Contains xs y → x ≡ y
      by (inl is) _ = sym is
      by (inr _) (inl is) = is
      by (inr later) (inr behind) = absurd (strict x y (behind_head x xs one y behind) (behind_head y ys other x later))

  rest_holds : (x y : X) (xs ys : List X) → x ≡ y → AllPairs R (x ∷ xs) → HoldsAll (x ∷ xs) (y ∷ ys) → HoldsAll xs ys
  rest_holds x y xs ys same one all z has = by (head_or_later y ys z (all z (later has)))
    where
      later : Contains xs z → Contains (x ∷ xs) z
      later (k, inside, is) = (suc k, omega (arith, inside), is)

      by : (y ≡ z) ⊎ Contains ys z → Contains ys z
      by (inl is) = absurd (itself (behind_head x xs one z has))
        where
          itself : R x z → ⊥
          itself before = let turned : R x x = subst (R x) (sym (same ∙ is)) before in strict x x turned turned
      by (inr behind) = behind

  pub same_list : (xs ys : List X) → AllPairs R xs → AllPairs R ys → HoldsAll xs ys → HoldsAll ys xs → xs ≡ ys
  same_list [] [] one other all back = refl
  same_list [] (y ∷ ys) one other all back = absurd (none (back y (first_of y ys)))
    where
      none : Contains [] y → ⊥
      none (k, inside, is) = omega (arith, inside)
  same_list (x ∷ xs) [] one other all back = absurd (none (all x (first_of x xs)))
    where
      none : Contains [] x → ⊥
      none (k, inside, is) = omega (arith, inside)
  same_list (x ∷ xs) (y ∷ ys) one other all back =
      let same : x ≡ y = same_heads x y xs ys one other (all x (first_of x xs)) (back y (first_of y ys)) in
      ap₂ (λ z zs. z ∷ zs) same
      (same_list xs ys (tail_sorted x xs one) (tail_sorted y ys other) (rest_holds x y xs ys same one all) (rest_holds y x ys xs (sym same) other back))
