-- How the set of nodes that were met grows, in words of the code.
use Rattle.std.specs.Prelude.{ℕ, ◌≡◌, ◌+◌, ◌⊎◌, List, Contains, length, count_by, not}
use Rattle.lw_graph.specs.declared.front.Front.{Front}
use Rattle.lw_graph.specs.Walks.{HasNode}

-- how often a node can still be taken from those that wait
abbrev pub nodes_left : Front → ℕ
nodes_left front = count_by not front.met.items + length front.waiting.items

-- these nodes were met, and those of them that are new wait
pub record Gains (nodes : List ℕ) (old new : Front) : Type 0 where
  pub size : length new.met.items ≡ length old.met.items
  pub keeps : (n : ℕ) → HasNode old.met.items n → HasNode new.met.items n
  pub met : (n : ℕ) → Contains nodes n → HasNode new.met.items n
  pub only : (n : ℕ) → HasNode new.met.items n → HasNode old.met.items n ⊎ (Contains nodes n × Contains new.waiting.items n)
  pub waits : (n : ℕ) → Contains old.waiting.items n → Contains new.waiting.items n
  pub waiting : (n : ℕ) → Contains new.waiting.items n → Contains old.waiting.items n ⊎ Contains nodes n
  pub left : nodes_left new ≡ nodes_left old
