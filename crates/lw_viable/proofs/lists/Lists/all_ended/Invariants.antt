-- Those of the readings so far.
use Rattle.std.proofs.Common.{take}
use Rattle.lw_viable.specs.Growing.{marks_of_each}
use Rattle.lw_viable.specs.Visiting.{AreEnded}
use Rattle.lw_viable.proofs.lists.Lists.all_ended.Given as goal

abbrev pub invariant-loop-front : goal.invariant-loop-front
invariant-loop-front l = AreEnded (marks_of_each l.self (take l.front-index l.fronts)) l.all.items
