use Rattle.std.proofs.Common.{ℕ, ◌≡◌, ◌≤◌, ◌<◌, ◌-◌, Some, true, false, length, slice_get}
use Rattle.lw_symbols.specs.declared.symbol.Symbol.{Symbol}
use Rattle.lw_symbols.specs.Runs.{before_type}
use Rattle.lw_symbols.proofs.runs.first_from.Given as goal

-- all before the first place are before, and none from the end on is
abbrev pub invariant-halving : goal.invariant-halving
invariant-halving l = record {
  order : l.first ≤ l.end;
  bound : l.end ≤ length l.symbols;
  before : (k : ℕ) (s : Symbol) → k < l.first → slice_get l.symbols k ≡ Some s → before_type l.container l.hash l.low s ≡ true;
  behind : (k : ℕ) (s : Symbol) → l.end ≤ k → slice_get l.symbols k ≡ Some s → before_type l.container l.hash l.low s ≡ false;
}

abbrev pub decreases-halving : goal.decreases-halving
decreases-halving l = l.end - l.first
