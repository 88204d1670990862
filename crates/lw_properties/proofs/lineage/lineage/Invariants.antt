use Rattle.std.proofs.Common.{◌+◌, map, reverse, length}
use Rattle.lw_properties.proofs.Unseen.{unseen, stands}
use Rattle.lw_properties.proofs.Searching.{IsSearching}
use Rattle.lw_properties.proofs.lineage.lineage.Given as goal

abbrev pub invariant-loop-name : goal.invariant-loop-name
invariant-loop-name l = IsSearching l.g l.type_name (reverse (map (λ n. n.now) l.waiting.items)) l.seen.keys (map (λ i. i.now) l.order.items)

-- what waits, and what those wait for that were not seen
abbrev pub decreases-loop-name : goal.decreases-loop-name
decreases-loop-name l = length l.waiting.items + unseen (λ i. length i.above) (stands l.seen.keys) 0 l.g.interfaces
