use Rattle.std.proofs.Common.{◌≤◌}
use Rattle.lw_matching.specs.Walk.{Tracking}
use Rattle.lw_matching.proofs.walk.Walker.foreseen_end.Given as goal

abbrev pub invariant-walk : goal.invariant-walk
invariant-walk l = record {
  tracking : Tracking l.nfa l.text l.state l.at l.self-inside.ways.items;
  left : l.self-inside.steps ≤ l.initial.self-inside.steps;
}

abbrev pub decreases-walk : goal.decreases-walk
decreases-walk l = l.self-inside.steps
