use Rattle.std.proofs.Common.{ℕ, ◌≡◌, ◌<◌, Some, slice_get}
use Rattle.lw_symbols.specs.declared.symbol.Symbol.{Symbol}
use Rattle.lw_symbols.specs.Least.{IsCalled, IsInRun}
use Rattle.lw_symbols.proofs.runs.first_called.Given as goal

-- none of those before is of the run and has the name
abbrev pub invariant-loop-place : goal.invariant-loop-place
invariant-loop-place l = (k : ℕ) (s : Symbol) → k < l.place → slice_get l.symbols k ≡ Some s → IsInRun l.run s → ¬ IsCalled l.tree l.name s
