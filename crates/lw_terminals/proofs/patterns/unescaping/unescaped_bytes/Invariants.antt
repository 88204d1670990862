use Rattle.std.proofs.Common.{◌≡◌, ◌++◌, drop}
use Rattle.lw_tokens.specs.Patterns.{unescaped}
use Rattle.lw_terminals.proofs.UnescapingLemmas.{from_here}
use Rattle.lw_terminals.proofs.patterns.unescaping.unescaped_bytes.Given as goal

abbrev pub invariant-loop-byte : goal.invariant-loop-byte
invariant-loop-byte l = l.bytes.items ++ from_here l.after_backslash (drop l.byte-index l.pattern) ≡ unescaped l.pattern
