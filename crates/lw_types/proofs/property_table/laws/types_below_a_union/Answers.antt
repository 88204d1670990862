-- The members of the union, and the action's type below one of them.
use Rattle.lw_types.proofs.PairsTypes.{types_below_any}
use Rattle.lw_types.proofs.property_table.laws.types_below_a_union.Goals as goal

pub returns : goal.returns
returns c = record { below = types_below_any }
