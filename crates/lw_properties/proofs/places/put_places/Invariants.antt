use Rattle.std.proofs.Common.{◌≡◌, List, Some, slice_get, map}
use Rattle.lw_grammar.specs.Leaves.{leaves}
use Rattle.lw_faults.specs.Finding.{Finds}
use Rattle.lw_flow.specs.declared.before.Before.{Before}
use Rattle.lw_properties.specs.Places.{spot_of}
use Rattle.lw_properties.proofs.Standing.{StandsBefore}
use Rattle.lw_properties.proofs.places.put_places.Given as goal

abbrev pub invariant-loop-place : goal.invariant-loop-place
invariant-loop-place l =
    (row : List Before) → slice_get l.ways l.number ≡ Some row →
    Finds (StandsBefore l.rule (leaves l.rule.body) row l.place) (map spot_of l.initial.places.items) (map spot_of l.places.items)
