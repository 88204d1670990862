use Rattle.std.proofs.Common.{◌-◌, ◌<◌, ◌≤◌, ◌≡◌, true}
use Rattle.std.specs.FinSet.{contains}
use Rattle.lw_symbols.specs.declared.symbol.Symbol.{Symbol}
use Rattle.lw_symbols.specs.Least.{IsInGroup, IsLeastSymbol, IsWantedSymbol}
use Rattle.lw_symbols.proofs.runs.first_wanted.Given as goal

-- of the types that were passed, the least node that is wanted
abbrev pub invariant-loop-place : goal.invariant-loop-place
invariant-loop-place l = record {
  low : l.low ≤ 65536;
  best : IsLeastSymbol (λ (s : Symbol). (s.type_id.0 < l.low) × (IsInGroup l.container l.hash s × IsWantedSymbol l.tree l.name (λ type. contains l.fits type ≡ true) s)) l.symbols l.best;
}

abbrev pub decreases-loop-place : goal.decreases-loop-place
decreases-loop-place l = 65537 - l.low
