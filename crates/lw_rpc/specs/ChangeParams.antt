-- What the changes of a text must have, and what they say. Language Server Protocol 3.17, "TextDocumentContentChangeEvent", "Range" and
-- "Position": a change without a member `range` is of the whole text, and one whose `range` is `null` is no change.
use Rattle.std.specs.Prelude.{ℕ, ◌^◌, List, codes, nat_lt, if◌then◌else◌, Option, Some, None, option_map, option_and_then}
use Rattle.serde_json.specs.Data.{Data, Items}
use Rattle.serde_json.specs.Find.{get, as_str, as_number, as_u64}
use Rattle.lw_text.specs.declared.change.Change.{Change}
use Rattle.lw_text.specs.declared.place.Pos.{Pos}
use Rattle.lw_rpc.specs.Listed.{items_by}

-- what has 32 bits
abbrev pub as_u32 : ℕ → Option ℕ
as_u32 n = if nat_lt n (2 ^ 32) then Some n else None

-- the whole number from 0 to 4,294,967,295 that a value is; `1.0`, `1e2` and `-0` are none
abbrev pub u32_of : Data → Option ℕ
u32_of value = option_and_then as_u32 (option_and_then as_u64 (as_number value))

abbrev pub at_place : Option ℕ → Option ℕ → Option Pos
at_place (Some line) (Some character) = Some (record { line = line; character = character })
at_place (Some line) None = None
at_place None character = None

-- a position: its line and its character
abbrev pub position_of : Data → Option Pos
position_of value = at_place (option_and_then u32_of (get (codes "line") value)) (option_and_then u32_of (get (codes "character") value))

abbrev pub ranged : Option Pos → Option Pos → Option (Pos × Pos)
ranged (Some start) (Some end) = Some (start, end)
ranged (Some start) None = None
ranged None end = None

-- a range: its start and its end
abbrev pub range_of : Data → Option (Pos × Pos)
range_of value = ranged (option_and_then position_of (get (codes "start") value)) (option_and_then position_of (get (codes "end") value))

-- a member that need not be there, and is a range where it is
abbrev pub optional_range : Option Data → Option (Option (Pos × Pos))
optional_range None = Some None
optional_range (Some value) = option_map Some (range_of value)

abbrev pub replacing : Option (Option (Pos × Pos)) → Option (List ℕ) → Option Change
replacing (Some range) (Some text) = Some (record { range = range; text = text })
replacing (Some range) None = None
replacing None text = None

-- a change: its range, where it has one, and its text
abbrev pub change_of : Data → Option Change
change_of value = replacing (optional_range (get (codes "range") value)) (option_and_then as_str (get (codes "text") value))

-- the changes that these values are, where each of them is one
abbrev pub changes_of : Items → Option (List Change)
changes_of = items_by change_of
