-- What stands at a place of a list.
use Rattle.std.proofs.Common.{◌≡◌, ℕ, zero, suc, ◌<◌, List, [], ◌∷◌, Some, length, slice_get, refl, arith}

pub item_there : {A : Type 0} (xs : List A) (i : ℕ) → i < length xs → (x : A) × (slice_get xs i ≡ Some x)
item_there [] i inside = absurd (omega (arith, inside))
item_there (x ∷ xs) zero inside = (x, refl)
item_there (x ∷ xs) (suc i) inside = item_there xs i (omega (arith, inside))
