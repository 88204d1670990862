use Rattle.std.proofs.Common.{All}
use Rattle.lw_matching.specs.Order.{IsRanked}
use Rattle.lw_matching.proofs.OrderLemmas.{HasBelow}
use Rattle.lw_matching.proofs.lengths.order.ranked_states.Given as goal

abbrev pub invariant-loop-state : goal.invariant-loop-state
invariant-loop-state l = record {
  complete : HasBelow l.nfa l.state l.list.items;
  each : All (IsRanked l.nfa) l.list.items;
}
