-- None of the readings so far may end.
use Rattle.std.proofs.Common.{All, take}
use Rattle.std.specs.List.{AllByRecursion}
use Rattle.lw_viable.specs.Growing.{read}
use Rattle.lw_viable.specs.Turning.{MayBePassed}
use Rattle.lw_viable.proofs.fronts.Fronts.complete.Given as goal

abbrev pub invariant-loop-front : goal.invariant-loop-front
invariant-loop-front l =
    All (λ front. ¬ AllByRecursion (MayBePassed l.self-inside.begins.now) (read l.self-inside.lists front).rest) (take l.front-index l.front-items)
