-- Documents whose trees have the same tables.
use Rattle.std.specs.Prelude.{ℕ, List, Option, Some, None}
use Rattle.lw_tree.specs.Parts.{Parts, SameTables}
use Rattle.lw_scoping.specs.Links.{Trees}

-- two trees with the same tables, or no tree both times
pub data AreAlike : Option Parts → Option Parts → Type 0 where
  both : {one other : Parts} → SameTables one other → AreAlike (Some one) (Some other)
  neither : AreAlike None None

-- so at each address
abbrev pub HaveSameTables : Trees → Trees → Type 0
HaveSameTables trees others = (address : List ℕ) → AreAlike (trees address) (others address)
