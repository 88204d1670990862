use Rattle.std.proofs.Common.{◌≡◌, replicate}
use Rattle.lw_terminals.specs.declared.patterns.written.Written.TheVariants.{Unwritten}
use Rattle.lw_terminals.proofs.patterns.rounds.none.Given as goal

abbrev pub invariant-loop : goal.invariant-loop
invariant-loop l = l.written.items ≡ replicate l.counter Unwritten
