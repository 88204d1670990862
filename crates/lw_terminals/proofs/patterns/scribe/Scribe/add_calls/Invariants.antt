use Rattle.std.proofs.Common.{◌≡◌}
use Rattle.lw_terminals.proofs.patterns.scribe.Scribe.add_calls.Given as goal

abbrev pub invariant-loop-name : goal.invariant-loop-name
invariant-loop-name l = l.calls.nodes ≡ l.fn.calls.nodes
