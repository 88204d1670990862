use Rattle.std.proofs.Common.{◌≡◌, ℕ, ◌<◌, map, slice_get}
use Rattle.lw_tree.specs.Keyed.{values_of}
use Rattle.lw_places.specs.Shapes.{shape_of_value}
use Rattle.lw_rename.proofs.shape.have_shapes_of.Given as goal

abbrev pub invariant-comparing : goal.invariant-comparing
invariant-comparing l = (k : ℕ) → k < l.i → slice_get (map shape_of_value (values_of l.entries)) k ≡ slice_get (map shape_of_value (values_of l.others)) k
