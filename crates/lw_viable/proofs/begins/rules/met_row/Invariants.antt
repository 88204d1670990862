use Rattle.lw_viable.proofs.Meeting.{IsMetUpTo}
use Rattle.lw_viable.proofs.begins.rules.met_row.Given as goal

abbrev pub invariant-loop-head : goal.invariant-loop-head
invariant-loop-head l = IsMetUpTo l.heads l.kinds l.row.items l.head-index
