-- Reading to the end, and writing all.
use Rattle.std.specs.Prelude.{◌≡◌, ℕ, ◌<◌, List, take, length, Option, Result, Ok, Err}
use Rattle.std.specs.Io.KnownBytes.{Consumes, Appends}
use Rattle.lw_io.specs.Causes.{Faulted}
use Rattle.lw_io.specs.declared.whole.ReadFault.{ReadFault}
use Rattle.lw_io.specs.declared.whole.ReadFault.TheVariants as reading
use Rattle.lw_io.specs.declared.whole.WriteFault.{WriteFault}
use Rattle.lw_io.specs.declared.whole.WriteFault.TheVariants as writing

-- the count rises at `Failed`, and stands still at every other answer
abbrev pub ReadCounts : {T : Type 0} → ℕ → ℕ → Result T ReadFault → Type 0
ReadCounts before now (Ok x) = now ≡ before
ReadCounts before now (Err reading.Failed) = Faulted before now
ReadCounts before now (Err reading.NoMemory) = now ≡ before

-- the count rises at `Failed`, and stands still at every other answer
abbrev pub WriteCounts : {T : Type 0} → ℕ → ℕ → Result T WriteFault → Type 0
WriteCounts before now (Ok x) = now ≡ before
WriteCounts before now (Err writing.Failed) = Faulted before now
WriteCounts before now (Err writing.NoMemory) = now ≡ before

-- some bytes were taken, and fewer than were wanted
abbrev pub TakesFewer : Option (List ℕ) → Option (List ℕ) → ℕ → Type 0
TakesFewer old new most = (bytes : List ℕ) × (length bytes < most) × Consumes old new bytes

-- a front of the bytes was written, and not all of them
abbrev pub WritesFront : Option (List ℕ) → Option (List ℕ) → List ℕ → Type 0
WritesFront old new bytes = (count : ℕ) × (count < length bytes) × Appends old new (take count bytes)
