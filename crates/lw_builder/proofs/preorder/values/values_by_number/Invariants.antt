use Rattle.std.proofs.Common.{◌≡◌, ◌++◌, map, take, drop}
use Rattle.lw_builder.specs.Renaming.{entry_by_number}
use Rattle.lw_builder.proofs.preorder.values.values_by_number.Given as goal

abbrev pub invariant-loop-own : goal.invariant-loop-own
invariant-loop-own l = l.own-items ≡ map (entry_by_number l.numbers) (take l.own-index l.initial.own-items) ++ drop l.own-index l.initial.own-items
