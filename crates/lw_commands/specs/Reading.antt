-- The files at some paths, as they are read.
use Rattle.std.specs.Prelude.{ℕ, ◌≡◌, List, Option, IfSome}
use Rattle.lw_io.specs.Store.{FitsFile, file_at}
use Rattle.lw_load.specs.Loading.{Files}
use Rattle.lw_commands.specs.Named.{IsFirstUnread, answer_of_fault, path_of_fault}
use Rattle.lw_commands.specs.declared.stop.Stop.{Stop}
use Rattle.lw_commands.specs.declared.stop.Stop.TheVariants as stop

-- a file is not read, for this cause, or for want of memory
abbrev pub IsUnreadBy : Option Files → List ℕ → Stop → Type 0
IsUnreadBy told path (stop.File found) = (path_of_fault found ≡ path) × IfSome told (λ files. FitsFile (file_at files path) (answer_of_fault found))
IsUnreadBy told path stop.Memory = Unit {0}
IsUnreadBy told path _ = ⊥

-- the first of these files is not read that is not, for this cause, or memory is refused
abbrev pub StopsAtFile : Option Files → List (List ℕ) → Stop → Type 0
StopsAtFile told paths (stop.File found) = IfSome told (λ files. IsFirstUnread files paths found)
StopsAtFile told paths stop.Memory = Unit {0}
StopsAtFile told paths _ = ⊥
