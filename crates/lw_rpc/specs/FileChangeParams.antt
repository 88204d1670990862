-- What the changes of files must have, and what they say. Language Server Protocol 3.17, "FileEvent" and "FileChangeType".
use Rattle.std.specs.Prelude.{ℕ, List, ◌==◌, codes, if◌then◌else◌, Option, Some, None, option_and_then}
use Rattle.serde_json.specs.Data.{Data, Items}
use Rattle.serde_json.specs.Find.{get, as_str, as_number, as_u64}
use Rattle.lw_rpc.specs.Listed.{items_by}
use Rattle.lw_rpc.specs.declared.file_change.FileChange.{FileChange}
use Rattle.lw_rpc.specs.declared.file_change.FileChangeKind.{FileChangeKind}
use Rattle.lw_rpc.specs.declared.file_change.FileChangeKind.TheVariants.{Created, Changed, Deleted}

-- what was done to a file, by its number: other numbers than these say nothing
abbrev pub kind_by : ℕ → Option FileChangeKind
kind_by n = if n == 1 then Some Created else (if n == 2 then Some Changed else (if n == 3 then Some Deleted else None))

-- what was done to a file, as a whole number says it; `1.0` and `1e0` are none
abbrev pub kind_of : Data → Option FileChangeKind
kind_of value = option_and_then kind_by (option_and_then as_u64 (as_number value))

abbrev pub done_to : Option (List ℕ) → Option FileChangeKind → Option FileChange
done_to (Some uri) (Some kind) = Some (record { uri = uri; kind = kind })
done_to (Some uri) None = None
done_to None kind = None

-- a change of a file: its address, and what was done to it
abbrev pub file_change_of : Data → Option FileChange
file_change_of value = done_to (option_and_then as_str (get (codes "uri") value)) (option_and_then kind_of (get (codes "type") value))

-- the changes of files that these values are, where each of them is one
abbrev pub file_changes_of : Items → Option (List FileChange)
file_changes_of = items_by file_change_of
