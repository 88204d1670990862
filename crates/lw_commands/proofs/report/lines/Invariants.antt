use Rattle.std.proofs.Common.{◌≡◌, take, string_bytes}
use Rattle.std.specs.List.{flat_map}
use Rattle.lw_commands.specs.Checked.{diagnostic_line}
use Rattle.lw_commands.proofs.report.lines.Given as goal

abbrev pub invariant-listing : goal.invariant-listing
invariant-listing l = string_bytes l.lines ≡ flat_map diagnostic_line (take l.shown-index l.list)
