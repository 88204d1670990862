use Rattle.std.proofs.Common.{ℕ, ◌≡◌, ◌<◌, Some, length, slice_get}
use Rattle.lw_symbols.specs.declared.symbol.Symbol.{Symbol}
use Rattle.lw_symbols.specs.Shelves.{AreShelfStarts, shelf}
use Rattle.lw_symbols.proofs.shelves.starts_of.Given as goal

abbrev pub invariant-loop-place : goal.invariant-loop-place
invariant-loop-place l = record {
  before : (k : ℕ) (s : Symbol) → k < l.place → slice_get l.symbols k ≡ Some s → shelf l.count s.hash < length l.starts.items;
  starts : AreShelfStarts l.count l.starts.items l.symbols;
}
