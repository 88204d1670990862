use Rattle.lw_terminals.specs.Rounds.{PatternsGrewBelow}
use Rattle.lw_terminals.specs.Writing.{ArePatternsKnown}
use Rattle.lw_terminals.proofs.patterns.rounds.visit_all.Given as goal

abbrev pub invariant-loop-place : goal.invariant-loop-place
invariant-loop-place l = record {
  known : ArePatternsKnown l.g l.numbers l.written.items;
  grew : PatternsGrewBelow l.g l.place l.fn.written.items l.written.items l.grew;
}
