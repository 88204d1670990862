-- What the entry calls, and the action's type below it.
use Rattle.lw_types.proofs.PairsTypes.{types_below_root}
use Rattle.lw_types.proofs.property_table.laws.types_below_a_rule.Goals as goal

pub returns : goal.returns
returns c = record { below = types_below_root }
