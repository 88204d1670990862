use Rattle.std.proofs.Common.{take}
use Rattle.lw_query.specs.Gathered.{PutsSpots}
use Rattle.lw_query.specs.Spots.{IsSpotOfSlot}
use Rattle.lw_query.proofs.gathering.put_uses.Given as goal

-- those of the references so far are put in
abbrev pub invariant-loop-slot : goal.invariant-loop-slot
invariant-loop-slot g l =
    PutsSpots (g.V.Views.Stands l.v) (IsSpotOfSlot (g.V.Views.tree_at l.v) (take l.slot-index l.slots)) l.initial.keys.keys l.keys.keys
