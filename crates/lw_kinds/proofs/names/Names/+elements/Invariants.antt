use Rattle.std.proofs.Common.{take}
use Rattle.std.specs.List.{flat_map}
use Rattle.lw_grammar.specs.Leaves.{leaves}
use Rattle.lw_kinds.specs.Gathering.{GathersLeaves}
use Rattle.lw_kinds.proofs.names.Names.+elements.Given as goal

abbrev pub invariant-add_elements-loop-element : goal.invariant-add_elements-loop-element
invariant-add_elements-loop-element l = GathersLeaves l.self.g.now l.file (flat_map leaves (take l.element-index l.elements)) l.fn.gathered l.gathered
