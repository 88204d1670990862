-- What is no fault leaves the count of a store as it is.
use Rattle.std.proofs.Common.{◌≡◌, ◌≢◌, ℕ, refl}
use Rattle.lw_io.specs.Store.{CountsFind}
use Rattle.lw_io.specs.declared.store.Found.{Found}
use Rattle.lw_io.specs.declared.store.Found.TheVariants.{Text, Absent, NotUtf8, TooLong, Failed, NoMemory}

pub Counts-no_fault : (found : Found) (before now : ℕ) → found ≢ Failed → now ≡ before → CountsFind before now found
Counts-no_fault (Text text) before now h e = e
Counts-no_fault Absent before now h e = e
Counts-no_fault NotUtf8 before now h e = e
Counts-no_fault TooLong before now h e = e
Counts-no_fault Failed before now h e = absurd (h refl)
Counts-no_fault NoMemory before now h e = e

pub ruleset faults = (Counts-no_fault)
