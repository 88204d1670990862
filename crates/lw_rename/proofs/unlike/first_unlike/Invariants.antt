use Rattle.lw_rename.proofs.FirstApart.{AreAlikeBelow}
use Rattle.lw_rename.proofs.unlike.first_unlike.Given as goal

abbrev pub invariant-nodes : goal.invariant-nodes
invariant-nodes l = AreAlikeBelow l.one l.other l.props l.apart l.n
