-- What a write to a sink takes, and what it does to the count of faults.
use Rattle.std.specs.Prelude.{◌≡◌, ℕ, ◌≤◌, List, take, length, Option}
use Rattle.std.specs.Io.KnownBytes.{Appends, Keeps}
use Rattle.lw_io.specs.Causes.{Faulted}
use Rattle.lw_io.specs.declared.sink.Wrote.{Wrote}
use Rattle.lw_io.specs.declared.sink.Wrote.TheVariants.{Took, Failed, NoMemory}

-- `Took(n)` adds the first n of the bytes to those written, and a refusal leaves what was written
abbrev pub Takes : Option (List ℕ) → Option (List ℕ) → List ℕ → Wrote → Type 0
Takes old new bytes (Took n) = (1 ≤ n) × (n ≤ length bytes) × Appends old new (take n bytes)
Takes old new bytes Failed = Keeps old new
Takes old new bytes NoMemory = Keeps old new

-- the count rises at `Failed`, and stands still at every other answer
abbrev pub CountsWrite : ℕ → ℕ → Wrote → Type 0
CountsWrite before now (Took n) = now ≡ before
CountsWrite before now Failed = Faulted before now
CountsWrite before now NoMemory = now ≡ before

-- what is taken is all of the bytes
abbrev pub TakesWhole : List ℕ → Wrote → Type 0
TakesWhole bytes (Took n) = n ≡ length bytes
TakesWhole bytes Failed = Unit {0}
TakesWhole bytes NoMemory = Unit {0}
