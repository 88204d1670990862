use Rattle.std.proofs.Common.{◌≡◌, ◌++◌, map, take}
use Rattle.std.specs.List.{flat_map}
use Rattle.lw_types.specs.NameUses.{use_of, member_uses}
use Rattle.lw_types.proofs.naming.mentions.put_members.Given as goal

abbrev pub invariant-loop-member : goal.invariant-loop-member
invariant-loop-member l =
    map use_of l.found.items ≡ map use_of l.fn.found.items ++ flat_map (member_uses l.file) (take l.member-index l.members)
