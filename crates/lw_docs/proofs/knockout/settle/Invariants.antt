use Rattle.std.proofs.Common.{◌≡◌, ◌≢◌, ◌+◌, ◌<◌, ◌≤◌, ℕ, length}
use Rattle.lw_docs.specs.Knockout.{cell_at, best}
use Rattle.lw_docs.proofs.knockout.settle.Given as goal

abbrev pub invariant-loop-rest : goal.invariant-loop-rest
invariant-loop-rest l = record {
  within : l.rest ≤ length l.cells;
  len : length l.cells ≡ length l.fn.cells;
  others : (p : ℕ) → p < length l.cells → p + 1 ≢ l.rest → cell_at l.cells p ≡ best l.slots l.cells p;
}

abbrev pub decreases-loop-rest : goal.decreases-loop-rest
decreases-loop-rest l = l.rest
