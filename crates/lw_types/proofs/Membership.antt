-- What lists have: of joined, mapped and shortened lists, and at their places.
use Rattle.std.proofs.Common.{◌≡◌, ℕ, zero, suc, ◌+◌, ◌<◌, ◌≤◌, List, [], ◌∷◌, ◌++◌, Some, length, get_or, take, map, slice_get, Contains, ◌⊎◌, inl, inr, refl, sym, ap, ◌∙◌, subst, arith}
use Rattle.std.specs.List.{flat_map}
use Rattle.std.proofs.lemmas.List.{length-take, get_or-take, take_all, take_more}
use Rattle.std.proofs.lemmas.List.Elements.{Contains-append_left, Contains-append_right, Contains-append_cases, Contains-push_cases}
use Rattle.std.proofs.lemmas.Option.{slice_get-get_or, slice_get_within, get_or_from_slice_get, slice_get_read}
use Rattle.lw_base.proofs.Lists.{there}

module _ {X : Type 0} where
  pub in_nothing : {x : X} → Contains [] x → ⊥
  in_nothing (k, inside, _) = omega arith

  pub here : (x : X) (xs : List X) → Contains (x ∷ xs) x
  here x xs = (0, omega arith, refl)

  pub in_cons : {x : X} (y : X) (xs : List X) → Contains (y ∷ xs) x → (y ≡ x) ⊎ Contains xs x
  in_cons y xs (zero, inside, is) = inl is
  in_cons y xs (suc k, inside, is) = inr (k, omega (arith, inside), is)

  pub in_one : {x : X} (y : X) → Contains (y ∷ []) x → y ≡ x
  in_one {x} y has = by (in_cons y [] has)
    where
      by : (y ≡ x) ⊎ Contains [] x → y ≡ x
      by (inl is) = is
      by (inr later) = absurd (in_nothing later)

  -- ---- places

  -- the item of a list that was lent
  pub item_at : (xs ys : List X) (i : ℕ) (x : X) → xs ≡ ys → i < length xs → x ≡ get_or xs i x → slice_get ys i ≡ Some x
  item_at xs ys i x same inside is = let P : List X → Type 0 = λ l. slice_get l i ≡ Some x in subst P same (slice_get_read xs (length xs) i x refl inside is)

  -- ---- the first ones

  pub in_front : (xs : List X) (n i : ℕ) (x : X) → i < n → slice_get xs i ≡ Some x → Contains (take n xs) x
  in_front xs n i x below at =
      (i, omega (arith, length-take n xs, slice_get_within xs i x at, below), get_or-take n xs i x below ∙ get_or_from_slice_get xs i x x at)

  pub of_front : (xs : List X) (n : ℕ) (x : X) → Contains (take n xs) x → (i : ℕ) × (i < n) × (slice_get xs i ≡ Some x)
  of_front xs n x (i, inside, is) =
      let below : i < n = omega (arith, length-take n xs, inside) in
      let within : i < length xs = omega (arith, length-take n xs, inside) in
      (i, below, slice_get-get_or xs i x within ∙ ap Some (sym (get_or-take n xs i x below) ∙ is))

  -- what is so of none of the first ones, nor of the next
  pub none_more : (P : X → Type 0) (xs ys : List X) (i : ℕ) (x : X) → xs ≡ ys → i < length xs → x ≡ get_or xs i x →
      ((y : X) → Contains (take i ys) y → ¬ P y) → ¬ P x → (y : X) → Contains (take (i + 1) ys) y → ¬ P y
  none_more P xs ys i x same inside is none not y has = by (Contains-push_cases (take i ys) x y (subst (λ l. Contains l y) next has))
    where
      at : x ≡ get_or ys i x
      at = is ∙ ap (λ l. get_or l i x) same

      next : take (i + 1) ys ≡ take i ys ++ x ∷ []
      next = take_more ys i x (subst (λ l. i < length l) same inside) ∙ ap (λ z. take i ys ++ z ∷ []) (sym at)

      by : Contains (take i ys) y ⊎ (x ≡ y) → ¬ P y
      by (inl before) = none y before
      by (inr now) = λ so. not (subst P (sym now) so)

  pub none_all : (P : X → Type 0) (xs : List X) (n : ℕ) → length xs ≤ n → ((y : X) → Contains (take n xs) y → ¬ P y) → (y : X) → Contains xs y → ¬ P y
  none_all P xs n past none y has = none y (subst (λ l. Contains l y) (sym (take_all n xs past)) has)

-- ---- images

module _ {X Y : Type 0} (f : X → Y) where
  pub map_has : (xs : List X) (x : X) → Contains xs x → Contains (map f xs) (f x)
  map_has [] x has = absurd (in_nothing has)
  map_has (z ∷ xs) x (zero, inside, is) = subst (λ y. Contains (f z ∷ map f xs) y) (ap f is) (here (f z) (map f xs))
  map_has (z ∷ xs) x (suc k, inside, is) = there (f z) (map f xs) (f x) (map_has xs x (k, omega (arith, inside), is))

  pub in_map : (xs : List X) (y : Y) → Contains (map f xs) y → (x : X) × Contains xs x × (f x ≡ y)
  in_map [] y has = absurd (in_nothing has)
  in_map (z ∷ xs) y (zero, inside, is) = (z, here z xs, is)
  in_map (z ∷ xs) y (suc k, inside, is) = let r = in_map xs y (k, omega (arith, inside), is) in (r.0, there z xs r.0 r.1, r.2)

-- ---- lists that are joined

module _ {X Y : Type 0} (f : X → List Y) where
  pub in_flat_map : (xs : List X) (y : Y) → Contains (flat_map f xs) y → (x : X) × Contains xs x × Contains (f x) y
  in_flat_map [] y has = absurd (in_nothing has)
  in_flat_map (x ∷ xs) y has = by (Contains-append_cases (f x) (flat_map f xs) y has) (in_flat_map xs y)
    where
      by : Contains (f x) y ⊎ Contains (flat_map f xs) y → (Contains (flat_map f xs) y → (z : X) × Contains xs z × Contains (f z) y) →
          (z : X) × Contains (x ∷ xs) z × Contains (f z) y
      by (inl is) rest = (x, here x xs, is)
      by (inr later) rest = let r = rest later in (r.0, there x xs r.0 r.1, r.2)

  pub flat_map_has : (xs : List X) (x : X) (y : Y) → Contains xs x → Contains (f x) y → Contains (flat_map f xs) y
  flat_map_has [] x y has inside = absurd (in_nothing has)
  flat_map_has (z ∷ xs) x y has inside = by (in_cons z xs has) (λ later. flat_map_has xs x y later inside)
    where
      by : (z ≡ x) ⊎ Contains xs x → (Contains xs x → Contains (flat_map f xs) y) → Contains (f z ++ flat_map f xs) y
      by (inl is) rest = Contains-append_left (f z) (flat_map f xs) y (subst (λ w. Contains (f w) y) (sym is) inside)
      by (inr later) rest = Contains-append_right (f z) (flat_map f xs) y (rest later)
