-- That a table, its free numbers, the numbers by address and the knockout belong together.
use Rattle.std.specs.Prelude.{ℕ, ◌≡◌, ◌+◌, ◌≤◌, List, Option, length}
use Rattle.std.specs.BTreeMap.{btree_map_len}
use Rattle.lw_docs.specs.declared.knockout.Entrant.{Entrant}
use Rattle.lw_docs.specs.Table.{Slots, Numbers, AreNamed, AreSpare}
use Rattle.lw_docs.specs.Knockout.{IsKnockout}

-- `room` is how many free numbers can be kept with no more memory
pub record AreKept (slots : Slots) (spare : List ℕ) (room : ℕ) (cells : List (Option Entrant)) (numbers : Numbers) : Type 0 where
  pub names : AreNamed slots numbers
  pub spares : AreSpare slots spare
  pub knockout : IsKnockout slots cells
  pub places : length cells ≡ length slots
  pub counted : btree_map_len numbers + length spare ≡ length slots
  pub roomy : length slots ≤ room
  pub few : length slots ≤ 65536
