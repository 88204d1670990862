use Rattle.std.proofs.Common.{◌≡◌, min, ◌^◌, ◌-◌, sum_by, take}
use Rattle.lw_grammar.specs.Size.{element_size}
use Rattle.lw_load.proofs.size.+elements.Given as goal

abbrev pub invariant-elements_size-loop-element : goal.invariant-elements_size-loop-element
invariant-elements_size-loop-element l = l.total ≡ min (sum_by element_size (take l.element-index l.elements)) (2 ^ 64 - 1)
