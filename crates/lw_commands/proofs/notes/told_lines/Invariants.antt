use Rattle.std.proofs.Common.{◌≡◌, take, string_bytes}
use Rattle.std.specs.List.{flat_map}
use Rattle.lw_commands.specs.Notes.{told_line}
use Rattle.lw_commands.proofs.notes.told_lines.Given as goal

abbrev pub invariant-telling : goal.invariant-telling
invariant-telling l = string_bytes l.lines ≡ flat_map told_line (take l.fault-index l.told)
