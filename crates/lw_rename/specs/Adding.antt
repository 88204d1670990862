-- What is left of a text that a part is added to, where it may be as long as a document at most.
use Rattle.std.specs.Prelude.{ℕ, ◌≡◌, ◌<◌, ◌≤◌, ◌+◌, ◌++◌, Bool, true, false, List, length}
use Rattle.lw_base.specs.declared.limits.TheConstants.{LONGEST_DOCUMENT}

pub data IsAdded (old part new : List ℕ) : Bool → Type 0 where
  added : new ≡ old ++ part → length new ≤ LONGEST_DOCUMENT → IsAdded old part new true
  too_long : LONGEST_DOCUMENT < length old + length part → IsAdded old part new false
