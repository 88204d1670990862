-- The order of diagnostics by where they start, and by their codes where they start at one place. None comes before itself.
-- Held against the Language Server Protocol 3.17, "Diagnostic": its range and its code.
use Rattle.std.specs.Prelude.{◌≡◌, ◌<◌}
use Rattle.lw_link_rules.specs.TreeDiagnostics.{Diagnostic}

pub data ComesBefore (one other : Diagnostic) : Type 0 where
  by_start : one.span.start < other.span.start → ComesBefore one other
  by_code : one.span.start ≡ other.span.start → one.code < other.code → ComesBefore one other
