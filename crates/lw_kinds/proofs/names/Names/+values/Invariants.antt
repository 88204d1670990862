use Rattle.std.proofs.Common.{take}
use Rattle.std.specs.List.{flat_map}
use Rattle.lw_grammar.specs.Leaves.{value_leaves}
use Rattle.lw_kinds.specs.Gathering.{GathersParts}
use Rattle.lw_kinds.proofs.names.Names.+values.Given as goal

abbrev pub invariant-add_values-loop-value : goal.invariant-add_values-loop-value
invariant-add_values-loop-value l = GathersParts l.self.g.now l.file (flat_map value_leaves (take l.value-index l.values)) l.fn.gathered l.gathered
