-- Shelves of symbols: those of the first shelf have the least numbers of names, and so on, so that a number tells its shelf.
-- Held against the order of symbols.
use Rattle.std.specs.Prelude.{ℕ, ◌≡◌, ◌≤◌, ◌<◌, ◌*◌, ◌/◌, List, Some, length, min, slice_get}
use Rattle.lw_symbols.specs.declared.symbol.Symbol.{Symbol}

-- the shelf of a number, of so many
abbrev pub shelf : ℕ → ℕ → ℕ
shelf count hash = ((hash / 65536) * count) / 65536

-- from this place on symbols stand on this shelf and later ones
pub record IsShelfStart (count b : ℕ) (symbols : List Symbol) (start : ℕ) : Type 0 where
  pub bound : start ≤ length symbols
  pub before : (k : ℕ) (s : Symbol) → k < start → slice_get symbols k ≡ Some s → shelf count s.hash < b
  pub behind : (k : ℕ) (s : Symbol) → start ≤ k → slice_get symbols k ≡ Some s → b ≤ shelf count s.hash

-- where each shelf begins, or each of the first ones
abbrev pub AreShelfStarts : ℕ → List ℕ → List Symbol → Type 0
AreShelfStarts count starts symbols = (b start : ℕ) → slice_get starts b ≡ Some start → IsShelfStart count b symbols start

abbrev pub AreStartsOf : List Symbol → List ℕ → Type 0
AreStartsOf symbols starts = AreShelfStarts (min (length symbols) 65536) starts symbols
