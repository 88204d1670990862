use Rattle.std.proofs.Common.{ℕ, List}
use Rattle.lw_first.specs.declared.heads.head.Head.{Head}
use Rattle.lw_lookahead.specs.Entries.{AreUpTo}
use Rattle.lw_lookahead.specs.Gathered.{AreGatheredWays}
use Rattle.lw_lookahead.proofs.GatherSteps.{GathersFirst}
use Rattle.lw_lookahead.proofs.entries.Entries.put_way.Given as goal

abbrev pub invariant-loop-head : goal.invariant-loop-head
invariant-loop-head l =
    (pairs : List (Head × ℕ)) → AreGatheredWays pairs l.fn.self → AreUpTo l.way pairs → GathersFirst l.way l.heads l.head-index pairs l.self
