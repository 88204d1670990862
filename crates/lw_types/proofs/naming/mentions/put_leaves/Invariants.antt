use Rattle.std.proofs.Common.{◌≡◌, ◌++◌, map, take}
use Rattle.std.specs.List.{flat_map}
use Rattle.lw_numbers.specs.Parts.{leaf_of}
use Rattle.lw_types.specs.NameUses.{use_of, leaf_uses}
use Rattle.lw_types.proofs.naming.mentions.put_leaves.Given as goal

abbrev pub invariant-loop-leaf : goal.invariant-loop-leaf
invariant-loop-leaf l =
    map use_of l.found.items ≡ map use_of l.fn.found.items ++ flat_map (λ leaf. leaf_uses l.file (leaf_of leaf)) (take l.leaf-index l.leaves)
