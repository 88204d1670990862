-- At each leaf the rule's own type is current, and on each way one property is put in.
use Rattle.lw_types.proofs.TwoWaysSeen.{type_numbers, property_numbers, both_properties}
use Rattle.lw_types.proofs.property_table.laws.properties_of_two_ways.Goals as goal

pub returns : goal.returns
returns c = record { types = type_numbers; properties = property_numbers; both = λ rows are. both_properties are }
