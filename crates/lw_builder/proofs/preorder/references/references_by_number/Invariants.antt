use Rattle.std.proofs.Common.{◌≡◌, ◌++◌, map, take, drop}
use Rattle.lw_builder.specs.Renaming.{reference_by_number}
use Rattle.lw_builder.proofs.preorder.references.references_by_number.Given as goal

abbrev pub invariant-loop-reference : goal.invariant-loop-reference
invariant-loop-reference l =
    l.reference-items ≡ map (reference_by_number l.numbers) (take l.reference-index l.initial.reference-items) ++ drop l.reference-index l.initial.reference-items
