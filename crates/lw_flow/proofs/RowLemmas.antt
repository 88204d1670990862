-- A row, cut at a place, and what stands at a place.
use Rattle.std.proofs.Common.{◌≡◌, ℕ, zero, suc, List, [], ◌∷◌, ◌++◌, Some, length, slice_get, ◌<◌, Contains, refl, ap, ◌∙◌, arith}
use Rattle.std.proofs.lemmas.Option.{none-some, same_Some, slice_get_within, get_or_from_slice_get, slice_get-get_or}

module _ {X : Type 0} where
  -- what stands behind the first ones
  pub at_length : (pre : List X) (x : X) (post : List X) → slice_get (pre ++ x ∷ post) (length pre) ≡ Some x
  at_length [] x post = refl
  at_length (y ∷ pre) x post = at_length pre x post

  pub cut_there : (pre post : List X) (x : X) → slice_get (pre ++ post) (length pre) ≡ Some x → (rest : List X) × (post ≡ x ∷ rest)
  cut_there [] [] x is = absurd (none-some x is)
  cut_there [] (y ∷ post) x is = (post, ap (λ z. z ∷ post) (same_Some y x is))
  cut_there (y ∷ pre) post x is = cut_there pre post x is

  pub length_one_more : (pre : List X) (x : X) → length (pre ++ x ∷ []) ≡ suc (length pre)
  length_one_more [] x = refl
  length_one_more (y ∷ pre) x = ap suc (length_one_more pre x)

  pub cut_off : (pre post : List X) → length pre ≡ length (pre ++ post) → post ≡ []
  cut_off [] [] is = refl
  cut_off [] (x ∷ post) is = absurd (omega (arith, is))
  cut_off (y ∷ pre) post is = cut_off pre post (omega (arith, is))

  -- ---- what stands at a place

  pub at_place : (xs : List X) (i : ℕ) (x : X) → slice_get xs i ≡ Some x → Contains xs x
  at_place xs i x is = (i, slice_get_within xs i x is, get_or_from_slice_get xs i x x is)

  pub place_there : (xs : List X) (x : X) → Contains xs x → (i : ℕ) × (slice_get xs i ≡ Some x)
  place_there xs x (i, inside, is) = (i, slice_get-get_or xs i x inside ∙ ap Some is)

  pub some_there : (xs : List X) (i : ℕ) → i < length xs → (x : X) × (slice_get xs i ≡ Some x)
  some_there [] i inside = absurd (omega (arith, inside))
  some_there (x ∷ xs) zero inside = (x, refl)
  some_there (x ∷ xs) (suc i) inside = some_there xs i (omega (arith, inside))
