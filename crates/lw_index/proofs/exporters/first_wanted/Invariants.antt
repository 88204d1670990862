use Rattle.std.proofs.Common.{◌≤◌, ◌-◌}
use Rattle.lw_index.specs.Least.{seen, IsLeastFound}
use Rattle.lw_index.proofs.Wanted.{IsBelow}
use Rattle.lw_index.proofs.exporters.first_wanted.Given as goal

abbrev pub invariant-loop-found : goal.invariant-loop-found
invariant-loop-found l = (l.from ≤ l.last) × IsLeastFound (IsBelow l.exporters l.types l.except l.from) (seen l.best)

abbrev pub decreases-loop-found : goal.decreases-loop-found
decreases-loop-found l = l.last - l.from
