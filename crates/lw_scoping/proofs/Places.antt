-- Items and their places.
use Rattle.std.proofs.Common.{◌≡◌, ℕ, List, Some, Contains, slice_get}
use Rattle.std.proofs.lemmas.Option.{slice_get_within, get_or_from_slice_get}

pub among : {X : Type 0} (xs : List X) (i : ℕ) (x : X) → slice_get xs i ≡ Some x → Contains xs x
among xs i x is = (i, slice_get_within xs i x is, get_or_from_slice_get xs i x x is)
