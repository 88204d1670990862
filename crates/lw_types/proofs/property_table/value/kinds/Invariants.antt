use Rattle.std.proofs.Common.{◌≡◌, take}
use Rattle.lw_types.specs.Gathered.{value_kinds}
use Rattle.lw_types.proofs.property_table.value.kinds.Given as goal

abbrev pub invariant-loop-value : goal.invariant-loop-value
invariant-loop-value l = l.list ≡ value_kinds (take l.value-index l.values)
