use Rattle.std.proofs.Common.{map}
use Rattle.lw_viable.proofs.BeginsMade.{MadeUpTo}
use Rattle.lw_viable.proofs.Meeting.{TellsRow}
use Rattle.lw_viable.proofs.begins.rules.met_kinds.Given as goal

abbrev pub invariant-loop-heads : goal.invariant-loop-heads
invariant-loop-heads l = MadeUpTo (TellsRow l.fn.kinds) l.sets (map (λ row. row.items) l.rows.items) l.heads-index
