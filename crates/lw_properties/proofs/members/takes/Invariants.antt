use Rattle.std.proofs.Common.{◌+◌, map, length}
use Rattle.lw_properties.specs.Kinds.{kind_of_value}
use Rattle.lw_properties.proofs.Looking.{IsLooking}
use Rattle.lw_properties.proofs.Unseen.{unseen, stands}
use Rattle.lw_properties.proofs.members.takes.Given as goal

abbrev pub invariant-loop-member : goal.invariant-loop-member
invariant-loop-member l = IsLooking l.known.g.now l.members (kind_of_value l.value) (map (λ m. m.now) l.waiting.items) l.seen.keys

-- what waits, and what those have that were not seen
abbrev pub decreases-loop-member : goal.decreases-loop-member
decreases-loop-member l = length l.waiting.items + unseen (λ u. length u.members) (stands l.seen.keys) 0 l.known.g.now.unions
