-- What a store answers for a path, and what it does to the count of faults.
use Rattle.std.specs.Prelude.{◌≡◌, ℕ, ◌≤◌, ◌<◌, List, length, reverse, Option, Some, None, IfSome, find, option_map}
use Rattle.std.specs.Str.{bytes_eq, IsUtf8}
use Rattle.lw_base.specs.declared.limits.TheConstants.{LONGEST_TEXT}
use Rattle.lw_io.specs.Causes.{Faulted}
use Rattle.lw_io.specs.declared.store.Found.{Found}
use Rattle.lw_io.specs.declared.store.Found.TheVariants.{Text, Absent, NotUtf8, TooLong, Failed, NoMemory}

-- what a path holds, of files given as pairs of a path and its bytes: a later pair of one path replaces an earlier, so the last one stands
abbrev pub file_at : List (List ℕ × List ℕ) → List ℕ → Option (List ℕ)
file_at files path = option_map (λ file. file.1) (find (λ file. bytes_eq file.0 path) (reverse files))

-- The one answer for what a path holds, but for a fault and want of memory: a file of over 67,108,864 bytes is too long,
-- and any other is its text or no UTF-8.
abbrev pub FitsFile : Option (List ℕ) → Found → Type 0
FitsFile None Absent = Unit {0}
FitsFile None (Text text) = ⊥
FitsFile None NotUtf8 = ⊥
FitsFile None TooLong = ⊥
FitsFile (Some bytes) Absent = ⊥
FitsFile (Some bytes) (Text text) = (text ≡ bytes) × (length bytes ≤ LONGEST_TEXT) × IsUtf8 bytes
FitsFile (Some bytes) NotUtf8 = (length bytes ≤ LONGEST_TEXT) × ¬ (IsUtf8 bytes)
FitsFile (Some bytes) TooLong = LONGEST_TEXT < length bytes
FitsFile held Failed = Unit {0}
FitsFile held NoMemory = Unit {0}

-- the same, where the store tells its files
abbrev pub AnswersFile : Option (List (List ℕ × List ℕ)) → List ℕ → Found → Type 0
AnswersFile told path found = IfSome told (λ files. FitsFile (file_at files path) found)

-- a text has at most 67,108,864 bytes
abbrev pub IsInLimit : Found → Type 0
IsInLimit (Text text) = length text ≤ LONGEST_TEXT
IsInLimit _ = Unit {0}

-- the count rises at `Failed`, and stands still at every other answer
abbrev pub CountsFind : ℕ → ℕ → Found → Type 0
CountsFind before now Failed = Faulted before now
CountsFind before now _ = now ≡ before
