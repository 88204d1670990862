-- Where the symbols of one container, one number of names and one type begin.
-- Held against the order of symbols.
use Rattle.std.specs.Prelude.{ℕ, ◌≡◌, ◌≤◌, ◌<◌, ◌+◌, ◌==◌, ◌||◌, ◌&&◌, nat_lt, Bool, List, Some, Contains, slice_get}
use Rattle.lw_base.specs.declared.numbers.NodeId.{NodeId}
use Rattle.lw_symbols.specs.declared.symbol.Symbol.{Symbol}
use Rattle.lw_symbols.specs.Least.{IsInGroup, IsInRun}

-- before all whose names have this number, of this container and of a type from this one on
abbrev pub before_type : ℕ → ℕ → ℕ → Symbol → Bool
before_type container hash low s =
    nat_lt s.hash hash || ((s.hash == hash) && (nat_lt s.container.0 container || ((s.container.0 == container) && nat_lt s.type_id.0 low)))

-- no symbol before the place i has the container, the number and the type of this one
abbrev pub BeginsRun : List Symbol → ℕ → Symbol → Type 0
BeginsRun symbols i run = (k : ℕ) (s : Symbol) → k < i → slice_get symbols k ≡ Some s → ¬ IsInRun run s

-- with this symbol, at the place i, begin those of the next type, from this one on, of a container whose names have this number
pub record IsNextRun (container hash low : ℕ) (symbols : List Symbol) (i : ℕ) (run : Symbol) : Type 0 where
  pub there : slice_get symbols i ≡ Some run
  pub in_group : IsInGroup container hash run
  pub from_low : low ≤ run.type_id.0
  pub next : (s : Symbol) → Contains symbols s → IsInGroup container hash s → low ≤ s.type_id.0 → run.type_id.0 ≤ s.type_id.0
  pub begins : BeginsRun symbols i run

-- a node whose symbol, one of the first so many, stands behind one of the same container, number and type
pub record StandsBehindAlike (count : ℕ) (symbols : List Symbol) (n : NodeId) : Type 0 where
  pub place : ℕ
  pub one : Symbol
  pub other : Symbol
  pub below : place + 1 < count
  pub at : slice_get symbols place ≡ Some one
  pub next : slice_get symbols (place + 1) ≡ Some other
  pub alike : IsInRun one other
  pub node : other.node ≡ n
