-- Which heads of a set are new, in words of the code.
use Rattle.std.specs.Prelude.{ℕ, ◌≡◌, ◌+◌, ◌⊎◌, List, length}
use Rattle.lw_first.specs.declared.heads.head.Head.{Head}
use Rattle.lw_first.specs.Sets.{IsAmongHeads}

-- these heads, and no others, the set got
pub record AreNew (fresh old new : List Head) : Type 0 where
  pub count : length new ≡ length old + length fresh
  pub there : (h : List ℕ) → IsAmongHeads fresh h → IsAmongHeads new h
  pub others : (h : List ℕ) → IsAmongHeads new h → IsAmongHeads old h ⊎ IsAmongHeads fresh h
