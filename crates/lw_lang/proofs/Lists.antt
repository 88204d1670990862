-- Which items lists have, of joined lists too, and of two lists that are tied item by item.
use Rattle.std.proofs.Common.{◌≡◌, ℕ, zero, suc, List, [], ◌∷◌, Some, slice_get, Contains, ◌⊎◌, inl, inr, refl, arith}
use Rattle.std.specs.List.{flat_map}
use Rattle.std.proofs.lemmas.List.Elements.{Contains-append_right, Contains-append_cases}
use Rattle.std.proofs.lemmas.Option.{slice_get_within, get_or_from_slice_get}

module _ {X : Type 0} where
  pub in_nothing : {x : X} → Contains [] x → ⊥
  in_nothing (k, inside, _) = omega arith

  pub here : (x : X) (xs : List X) → Contains (x ∷ xs) x
  here x xs = (0, omega arith, refl)

  there : {x : X} (y : X) (xs : List X) → Contains xs x → Contains (y ∷ xs) x
  there {x} y xs h = Contains-append_right (y ∷ []) xs x h

  in_cons : {x : X} (y : X) (xs : List X) → Contains (y ∷ xs) x → (y ≡ x) ⊎ Contains xs x
  in_cons y xs (zero, inside, is) = inl is
  in_cons y xs (suc k, inside, is) = inr (k, omega arith, is)

  pub in_one : {x : X} (y : X) → Contains (y ∷ []) x → y ≡ x
  in_one {x} y h = by (in_cons y [] h)
    where
      by : (y ≡ x) ⊎ Contains [] x → y ≡ x
      by (inl is) = is
      by (inr later) = absurd (in_nothing later)

  pub at_place : {x : X} (xs : List X) (i : ℕ) → slice_get xs i ≡ Some x → Contains xs x
  at_place {x} xs i is = (i, slice_get_within xs i x is, get_or_from_slice_get xs i x x is)

module _ {X Y : Type 0} where
  pub in_flat_map : (f : X → List Y) (xs : List X) (y : Y) → Contains (flat_map f xs) y → (x : X) × Contains xs x × Contains (f x) y
  in_flat_map f [] y h = absurd (in_nothing h)
  in_flat_map f (x ∷ xs) y h = by (Contains-append_cases (f x) (flat_map f xs) y h) (in_flat_map f xs y)
    where
      by : Contains (f x) y ⊎ Contains (flat_map f xs) y → (Contains (flat_map f xs) y → (z : X) × Contains xs z × Contains (f z) y) →
          (z : X) × Contains (x ∷ xs) z × Contains (f z) y
      by (inl is) rest = (x, here x xs, is)
      by (inr later) rest = let r = rest later in (r.0, there x xs r.1, r.2)
