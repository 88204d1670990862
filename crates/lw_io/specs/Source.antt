-- What a read of a source gives, and what it does to the count of faults.
use Rattle.std.specs.Prelude.{◌≡◌, ℕ, ◌≤◌, List, take, length, Option}
use Rattle.std.specs.Io.KnownBytes.{Consumes, Keeps, IsAtEnd}
use Rattle.lw_io.specs.Causes.{Faulted}
use Rattle.lw_io.specs.declared.source.Read.{Read}
use Rattle.lw_io.specs.declared.source.Read.TheVariants.{Got, End, Failed}

-- `Got(n)` gives and takes the first n of the bytes left, `End` comes where none is left, and a fault leaves them
abbrev pub GivesBytes : Option (List ℕ) → Option (List ℕ) → List ℕ → Read → Type 0
GivesBytes old new buf (Got n) = (1 ≤ n) × (n ≤ length buf) × Consumes old new (take n buf)
GivesBytes old new buf End = IsAtEnd old × IsAtEnd new × Keeps old new
GivesBytes old new buf Failed = Keeps old new

-- the count rises at `Failed`, and stands still at every other answer
abbrev pub CountsRead : ℕ → ℕ → Read → Type 0
CountsRead before now (Got n) = now ≡ before
CountsRead before now End = now ≡ before
CountsRead before now Failed = Faulted before now
