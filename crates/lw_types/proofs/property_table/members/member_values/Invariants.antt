use Rattle.std.proofs.Common.{◌+◌, map, length, reverse}
use Rattle.lw_properties.proofs.Unseen.{unseen, stands}
use Rattle.lw_types.proofs.Giving.{IsGiving}
use Rattle.lw_types.proofs.property_table.members.member_values.Given as goal

abbrev pub invariant-loop-member : goal.invariant-loop-member
invariant-loop-member l = IsGiving l.source.g.now l.members (reverse (map (λ m. m.now) l.waiting.items)) l.looked.keys l.values.items

-- what waits, and what those have that were not looked into
abbrev pub decreases-loop-member : goal.decreases-loop-member
decreases-loop-member l = length l.waiting.items + unseen (λ u. length u.members) (stands l.looked.keys) 0 l.source.g.now.unions
