-- What stands in a list, and at which place.
use Rattle.std.proofs.Common.{◌≡◌, ℕ, ◌+◌, ◌-◌, ◌<◌, ◌≤◌, List, Some, Contains, slice_get, drop, length, get_or, sym, ap, ◌∙◌, subst, arith}
use Rattle.std.proofs.lemmas.List.{get_or-drop, length-drop}
use Rattle.std.proofs.lemmas.Option.{slice_get_within, get_or_from_slice_get, slice_get-get_or}

module _ {X : Type 0} where
  pub stands_in : (xs : List X) (r : ℕ) (x : X) → slice_get xs r ≡ Some x → Contains xs x
  stands_in xs r x at = (r, slice_get_within xs r x at, get_or_from_slice_get xs r x x at)

  pub place_in : (xs : List X) (x : X) → Contains xs x → (r : ℕ) × (slice_get xs r ≡ Some x)
  place_in xs x (k, inside, is) = (k, slice_get-get_or xs k x inside ∙ ap Some is)

  -- what is read at a place of a list that is known
  pub reads_at : (xs ys : List X) (r : ℕ) (x : X) → xs ≡ ys → r < length xs → x ≡ get_or xs r x → slice_get ys r ≡ Some x
  reads_at xs ys r x same inside read = ap (λ list. slice_get list r) (sym same) ∙ slice_get-get_or xs r x inside ∙ ap Some (sym read)

  pub past_all : (xs ys : List X) (n : ℕ) → xs ≡ ys → length xs ≤ n → length ys ≤ n
  past_all xs ys n same past = let P : List X → Type 0 = λ list. length list ≤ n in subst P same past

  -- behind the first n
  pub stands_behind : (xs : List X) (n r : ℕ) (x : X) → n ≤ r → slice_get xs r ≡ Some x → Contains (drop n xs) x
  stands_behind xs n r x past at =
      let place : n + (r - n) ≡ r = omega arith in
      (r - n, omega (arith, length-drop n xs, slice_get_within xs r x at), get_or-drop n xs (r - n) x ∙ ap (λ k. get_or xs k x) place ∙ get_or_from_slice_get xs r x x at)

  pub place_behind : (xs : List X) (n : ℕ) (x : X) → Contains (drop n xs) x → (r : ℕ) × (n ≤ r) × (slice_get xs r ≡ Some x)
  place_behind xs n x (k, inside, is) =
      let within : n + k < length xs = omega (arith, length-drop n xs, inside) in
      (n + k, omega arith, slice_get-get_or xs (n + k) x within ∙ ap Some (sym (get_or-drop n xs k x) ∙ is))
