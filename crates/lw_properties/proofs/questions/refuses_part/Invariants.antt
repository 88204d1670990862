use Rattle.std.proofs.Common.{map, take}
use Rattle.lw_numbers.specs.Parts.{value_leaf_of}
use Rattle.lw_properties.specs.Asked.{RefusesSome}
use Rattle.lw_properties.proofs.questions.refuses_part.Given as goal

abbrev pub invariant-loop-part : goal.invariant-loop-part
invariant-loop-part l = ¬ RefusesSome l.known.g.now l.attribute (map value_leaf_of (take l.part-index l.part-items))
