use Rattle.std.proofs.Common.{◌≤◌}
use Rattle.lw_terminals.specs.Rounds.{missing}
use Rattle.lw_terminals.specs.Writing.{ArePatternsKnown}
use Rattle.lw_terminals.proofs.patterns.rounds.visit_some.Given as goal

abbrev pub invariant-loop-place : goal.invariant-loop-place
invariant-loop-place l = record {
  known : ArePatternsKnown l.g l.numbers l.written.items;
  fewer : missing l.written.items ≤ missing l.fn.written.items;
}
