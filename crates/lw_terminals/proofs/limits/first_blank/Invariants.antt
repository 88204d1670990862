use Rattle.lw_terminals.proofs.KeywordSteps.{NoneBlankBelow}
use Rattle.lw_terminals.proofs.limits.first_blank.Given as goal

abbrev pub invariant-loop-k : goal.invariant-loop-k
invariant-loop-k l = NoneBlankBelow l.kinds.keywords l.k
