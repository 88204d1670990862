use Rattle.std.proofs.Common.{◌≡◌, ◌++◌, map, take}
use Rattle.std.specs.List.{flat_map}
use Rattle.lw_types.specs.NameUses.{use_of, union_uses}
use Rattle.lw_types.proofs.naming.mentions.put_unions.Given as goal

abbrev pub invariant-loop-union : goal.invariant-loop-union
invariant-loop-union l =
    map use_of l.found.items ≡ map use_of l.fn.found.items ++ flat_map union_uses (take l.union-index l.unions)
