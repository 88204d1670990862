use Rattle.std.proofs.Common.{take}
use Rattle.lw_lookahead.specs.Entries.{of_ways}
use Rattle.lw_lookahead.specs.Gathered.{AreGatheredWays}
use Rattle.lw_lookahead.proofs.entries.Entries.of.Given as goal

abbrev pub invariant-loop-place : goal.invariant-loop-place
invariant-loop-place l = AreGatheredWays (of_ways 1 (take l.place l.ways)) l.entries
