-- What was listed, and what is left of the list.
use Rattle.std.proofs.Common.{◌≡◌, ◌++◌}
use Rattle.lw_viable.specs.Chains.{chain}
use Rattle.lw_viable.proofs.listed.listed.Given as goal

abbrev pub invariant-cells : goal.invariant-cells
invariant-cells g l = l.items.items ++ chain l.chains l.rest.0 ≡ chain l.chains l.fn.list.0

abbrev pub decreases-cells : goal.decreases-cells
decreases-cells g l = l.rest.0
