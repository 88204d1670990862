use Rattle.std.proofs.Common.{◌≡◌, min, ◌^◌, ◌-◌, sum_by, take}
use Rattle.lw_grammar.specs.Size.{value_size}
use Rattle.lw_load.proofs.size.+values.Given as goal

abbrev pub invariant-values_size-loop-value : goal.invariant-values_size-loop-value
invariant-values_size-loop-value l = l.total ≡ min (sum_by value_size (take l.value-index l.values)) (2 ^ 64 - 1)
