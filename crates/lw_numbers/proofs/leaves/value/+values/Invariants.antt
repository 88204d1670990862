use Rattle.std.proofs.Common.{◌≡◌, ◌++◌, map, take}
use Rattle.std.specs.List.{flat_map}
use Rattle.lw_grammar.specs.Leaves.{value_leaves}
use Rattle.lw_numbers.specs.Parts.{value_leaf_of}
use Rattle.lw_numbers.proofs.leaves.value.+values.Given as goal

abbrev pub invariant-put_values-loop-value : goal.invariant-put_values-loop-value
invariant-put_values-loop-value l =
    map value_leaf_of l.found.items ≡ map value_leaf_of l.fn.found.items ++ flat_map value_leaves (take l.value-index l.values)
