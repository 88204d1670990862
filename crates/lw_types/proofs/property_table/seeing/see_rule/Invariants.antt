use Rattle.std.proofs.Common.{◌≡◌, List, Some, slice_get, take}
use Rattle.lw_grammar.specs.Leaves.{leaves}
use Rattle.lw_flow.specs.declared.before.Before.{Before}
use Rattle.lw_types.specs.Sightings.{Along, SeenAtLeaf}
use Rattle.lw_types.specs.Seeing.{Sees}
use Rattle.lw_types.proofs.property_table.seeing.see_rule.Given as goal

abbrev pub invariant-loop-place : goal.invariant-loop-place
invariant-loop-place l = (row : List Before) → slice_get l.ways l.number ≡ Some row →
    Sees l.wanted (Along (SeenAtLeaf l.source.g.now) (take l.place (leaves l.rule.body)) (take l.place row)) l.initial.gatherings l.gatherings
