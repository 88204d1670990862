use Rattle.lw_terminals.specs.Rounds.{missing}
use Rattle.lw_terminals.specs.Writing.{ArePatternsKnown}
use Rattle.lw_terminals.proofs.patterns.rounds.patterns.Given as goal

abbrev pub invariant-rounds : goal.invariant-rounds
invariant-rounds l = ArePatternsKnown l.g l.numbers l.written.items

abbrev pub decreases-rounds : goal.decreases-rounds
decreases-rounds l = missing l.written.items
