use Rattle.std.proofs.Common.{◌≡◌, ◌≤◌, ◌-◌, length}
use Rattle.lw_complete.proofs.keywords.kind_count.Given as goal

abbrev pub invariant-kinds : goal.invariant-kinds
invariant-kinds l = (l.set ≡ l.fn.set) × (l.count ≤ length l.fn.set.texts)

abbrev pub decreases-kinds : goal.decreases-kinds
decreases-kinds l = 65535 - l.count
