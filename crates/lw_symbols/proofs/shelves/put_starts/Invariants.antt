use Rattle.std.proofs.Common.{ℕ, ◌≡◌, ◌+◌, ◌-◌, ◌<◌, Some, length, slice_get}
use Rattle.lw_symbols.specs.declared.symbol.Symbol.{Symbol}
use Rattle.lw_symbols.specs.Shelves.{AreShelfStarts, shelf}
use Rattle.lw_symbols.proofs.shelves.put_starts.Given as goal

-- all symbols before the place are on a shelf that begins already
abbrev pub invariant-shelves : goal.invariant-shelves
invariant-shelves l = record {
  before : (k : ℕ) (s : Symbol) → k < l.place → slice_get l.symbols k ≡ Some s → shelf l.count s.hash < length l.starts.items;
  starts : AreShelfStarts l.count l.starts.items l.symbols;
}

abbrev pub decreases-shelves : goal.decreases-shelves
decreases-shelves l = (l.own + 1) - length l.starts.items
