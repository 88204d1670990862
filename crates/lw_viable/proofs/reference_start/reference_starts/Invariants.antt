-- Those of the readings so far.
use Rattle.std.proofs.Common.{take}
use Rattle.std.specs.List.{AllZip}
use Rattle.lw_viable.specs.Growing.{read}
use Rattle.lw_viable.specs.ReferenceStarts.{IsBeforeStart}
use Rattle.lw_viable.proofs.reference_start.reference_starts.Given as goal

abbrev pub invariant-loop-front : goal.invariant-loop-front
invariant-loop-front l = AllZip (λ front. IsBeforeStart l.program (read l.lists front)) (take l.front-index l.fronts) l.starts.items
