-- Which items lists have, and where they stand.
use Rattle.std.proofs.Common.{◌≡◌, ℕ, zero, suc, ◌+◌, ◌<◌, List, [], ◌∷◌, ◌++◌, Bool, true, false, cond, not, Some, length, get_or, map, slice_get, Contains, ◌⊎◌, inl, inr, refl, sym, ap, ◌∙◌, subst, arith, true≢false}
use Rattle.std.specs.List.{flat_map, position_or_len}
use Rattle.std.specs.Option.{option_map}
use Rattle.std.proofs.lemmas.Bool.{cases_eq}
use Rattle.std.proofs.lemmas.List.Elements.{Contains-append_left, Contains-append_right}
use Rattle.std.proofs.lemmas.Option.{slice_get_within, slice_get-get_or, slice_get-map, get_or_from_slice_get, none-some, same_Some}

-- ---- the first, and those behind it

pub there : {X : Type 0} (x : X) (xs : List X) (y : X) → Contains xs y → Contains (x ∷ xs) y
there x xs y (k, inside, is) = (suc k, omega arith, is)

module _ {X : Type 0} where
  pub the_first : (x : X) (xs : List X) → Contains (x ∷ xs) x
  the_first x xs = (0, omega arith, refl)

  pub first_or_later : {y : X} (x : X) (xs : List X) → Contains (x ∷ xs) y → (x ≡ y) ⊎ Contains xs y
  first_or_later x xs (zero, inside, is) = inl is
  first_or_later x xs (suc k, inside, is) = inr (k, omega arith, is)

pub flat_map_has : {X Y : Type 0} (f : X → List Y) (xs : List X) (x : X) (y : Y) → Contains xs x → Contains (f x) y → Contains (flat_map f xs) y
flat_map_has f [] x y has inside = absurd (omega (arith, has.1))
flat_map_has {X} {Y} f (z ∷ xs) x y has inside = by (first_or_later z xs has) (λ later. flat_map_has f xs x y later inside)
  where
    by : (z ≡ x) ⊎ Contains xs x → (Contains xs x → Contains (flat_map f xs) y) → Contains (f z ++ flat_map f xs) y
    by (inl same) rest = Contains-append_left (f z) (flat_map f xs) y (subst (λ w. Contains (f w) y) (sym same) inside)
    by (inr later) rest = Contains-append_right (f z) (flat_map f xs) y (rest later)

-- an item that passes has a first place
pub first_below : {X : Type 0} (test : X → Bool) (xs : List X) (x : X) → Contains xs x → test x ≡ true → position_or_len test xs < length xs
first_below test [] x has passes = absurd (omega (arith, has.1))
first_below test (y ∷ ys) x has passes = by (first_or_later y ys has) (test y) refl (λ later. first_below test ys x later passes)
  where
    by : (y ≡ x) ⊎ Contains ys x → (b : Bool) → test y ≡ b → (Contains ys x → position_or_len test ys < length ys) →
        cond (not b) (1 + position_or_len test ys) 0 < suc (length ys)
    by which true is rest = omega arith
    by (inl same) false is rest = absurd (true≢false (sym passes ∙ ap test (sym same) ∙ is))
    by (inr later) false is rest = omega (arith, rest later)

-- ---- places

module _ {X : Type 0} (xs : List X) where
  pub at_of : (x : X) → Contains xs x → (i : ℕ) × (slice_get xs i ≡ Some x)
  at_of x (i, inside, is) = (i, slice_get-get_or xs i x inside ∙ ap Some is)

  pub has_at : (i : ℕ) (x : X) → slice_get xs i ≡ Some x → Contains xs x
  has_at i x is = (i, slice_get_within xs i x is, get_or_from_slice_get xs i x x is)

module _ {X Y : Type 0} (f : X → Y) where
  -- an item of a list that f is applied to
  pub at_map : (xs : List X) (y : Y) → Contains (map f xs) y → (i : ℕ) × (x : X) × (slice_get xs i ≡ Some x) × (f x ≡ y)
  at_map [] y has = absurd (omega (arith, has.1))
  at_map (x ∷ xs) y (zero, inside, is) = (zero, x, refl, is)
  at_map (x ∷ xs) y (suc k, inside, is) = let rest = at_map xs y (k, omega arith, is) in (suc rest.0, rest.1, rest.2, rest.3)

  pub map_has : (xs : List X) (i : ℕ) (x : X) → slice_get xs i ≡ Some x → Contains (map f xs) (f x)
  map_has [] i x is = absurd (none-some x is)
  map_has (y ∷ xs) zero x is = (zero, omega arith, ap f (same_Some y x is))
  map_has (y ∷ xs) (suc i) x is = let rest = map_has xs i x is in (suc rest.0, omega (arith, rest.1), rest.2)

pub get_or_any : {X : Type 0} (xs : List X) (k : ℕ) (x d : X) → k < length xs → get_or xs k x ≡ get_or xs k d
get_or_any xs k x d inside = same_Some _ _ (sym (slice_get-get_or xs k x inside) ∙ slice_get-get_or xs k d inside)

pub item_at : {X : Type 0} (xs : List X) (i : ℕ) (x : X) → i < length xs → x ≡ get_or xs i x → slice_get xs i ≡ Some x
item_at xs i x inside is = slice_get-get_or xs i x inside ∙ ap Some (sym is)

-- the item at a place, and what a list has there that a function is applied to
pub map_at : {X Y : Type 0} (f : X → Y) (xs : List X) (i : ℕ) (x : X) → i < length xs → x ≡ get_or xs i x → slice_get (map f xs) i ≡ Some (f x)
map_at f xs i x inside is =
    slice_get-map f xs i ∙ ap (option_map f) (item_at xs i x inside is)

-- ---- numbers

-- the list with one place of r taken out
pub without : (xs : List ℕ) (r : ℕ) → Contains xs r → (ys : List ℕ) × (length xs ≡ suc (length ys)) × ((x : ℕ) → Contains xs x → (x ≡ r) ⊎ Contains ys x)
without [] r (k, inside, is) = absurd (omega arith)
without (y ∷ ys) r (zero, inside, is) = (ys, refl, λ x has. elim (first_or_later y ys has) [ inl same ↦ inl (sym same ∙ is) | inr later ↦ inr later ])
without (y ∷ ys) r (suc k, inside, is) =
    let less = without ys r (k, omega arith, is) in (
      y ∷ less.0,
      ap suc less.1,
      λ x has. elim (first_or_later y ys has) [
        | inl same ↦ inr (subst (Contains (y ∷ less.0)) same (the_first y less.0))
        | inr later ↦ elim (less.2 x later) [ inl is_it ↦ inl is_it | inr still ↦ inr (there y less.0 x still) ]
      ],
    )

pub numbers_below : ℕ → List ℕ
numbers_below zero = []
numbers_below (suc n) = n ∷ numbers_below n

pub below_has : (n r : ℕ) → r < n → Contains (numbers_below n) r
unfolding numbers_below
below_has zero r lt = absurd (omega arith)
below_has (suc n) r lt = elim (cases_eq n r) [
  | inl same ↦ subst (Contains (n ∷ numbers_below n)) same (the_first n (numbers_below n))
  | inr other ↦ there n (numbers_below n) r (below_has n r (omega arith))
]

-- ---- by their places

pub place_of : {X : Type 0} (xs : List X) (x : X) → Contains xs x → (i : ℕ) × (slice_get xs i ≡ Some x)
place_of xs x (i, below, is) = (i, slice_get-get_or xs i x below ∙ ap Some is)

pub among : {X : Type 0} (xs : List X) (i : ℕ) (x : X) → slice_get xs i ≡ Some x → Contains xs x
among xs i x is = (i, slice_get_within xs i x is, get_or_from_slice_get xs i x x is)
