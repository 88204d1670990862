use Rattle.std.proofs.Common.{◌≡◌, length}
use Rattle.lw_flow.specs.Arrivals.{AllOfWays, HasRuleStarts}
use Rattle.lw_flow.specs.Rows.{InTable, room}
use Rattle.lw_flow.proofs.arrivals.arrivals.Given as goal

abbrev pub invariant-rounds : goal.invariant-rounds
invariant-rounds l = record {
  sized : length l.marks.items ≡ length l.source.grammar.now.rules;
  known : AllOfWays l.source.grammar.now (InTable l.marks.items);
  starts : HasRuleStarts l.source.grammar.now (InTable l.marks.items);
}

abbrev pub decreases-rounds : goal.decreases-rounds
decreases-rounds l = room l.marks.items
