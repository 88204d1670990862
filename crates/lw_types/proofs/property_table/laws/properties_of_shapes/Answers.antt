-- The lineage of each type, and what its attributes give.
use Rattle.lw_types.proofs.ShapesWorked.{base_has, shape_has, any_has_none}
use Rattle.lw_types.proofs.property_table.laws.properties_of_shapes.Goals as goal

pub returns : goal.returns
returns c = record { base = base_has; extending = shape_has; union = any_has_none }
