use Rattle.std.proofs.Common.{take}
use Rattle.lw_types.specs.Gathered.{value_kinds, JoinsValues}
use Rattle.lw_types.proofs.property_table.value.put_kinds.Given as goal

abbrev pub invariant-loop-kind : goal.invariant-loop-kind
invariant-loop-kind l = JoinsValues (value_kinds l.initial.set.keys) (take l.kind-index l.kinds) (value_kinds l.set.keys)
