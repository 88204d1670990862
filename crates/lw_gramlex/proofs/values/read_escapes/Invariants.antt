use Rattle.std.proofs.Common.{length, string_bytes}
use Rattle.lw_gramlex.proofs.ValueLemmas.{IsReadTo}
use Rattle.lw_gramlex.proofs.values.read_escapes.Given as goal

abbrev pub invariant-reading : goal.invariant-reading
invariant-reading l = IsReadTo l.text (string_bytes l.value) (length l.yielded) l.escaped
