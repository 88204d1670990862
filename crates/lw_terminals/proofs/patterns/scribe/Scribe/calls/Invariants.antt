use Rattle.std.proofs.Common.{◌≡◌, length}
use Rattle.lw_terminals.proofs.patterns.scribe.Scribe.calls.Given as goal

abbrev pub invariant-loop-place : goal.invariant-loop-place
invariant-loop-place l = l.calls.nodes ≡ length l.self.g.now.terminals
