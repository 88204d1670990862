-- What is gathered from the ways of a choice.
use Rattle.std.specs.Prelude.{ℕ, List}
use Rattle.lw_first.specs.declared.heads.head.Head.{Head}
use Rattle.lw_lookahead.specs.declared.entries.Entries.{Entries}
use Rattle.lw_lookahead.specs.Entries.{AreFirstWays, IsLeastPairOf}

-- of these heads the first ways, and the least pair of ways that have a head in common
pub record AreGatheredWays (pairs : List (Head × ℕ)) (entries : Entries) : Type 0 where
  pub first : AreFirstWays pairs entries.ways.entries
  pub pair : IsLeastPairOf pairs entries.pair
