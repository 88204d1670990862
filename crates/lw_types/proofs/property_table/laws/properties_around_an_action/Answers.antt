-- Before the action the type of the rule is current, in the fragment too, and behind it that of the action.
use Rattle.lw_types.proofs.PairsWays.{type_numbers, property_numbers}
use Rattle.lw_types.proofs.PairsSeen.{leaf_has, pair_has}
use Rattle.lw_types.proofs.property_table.laws.properties_around_an_action.Goals as goal

pub returns : goal.returns
returns c = record { types = type_numbers; properties = property_numbers; before = λ rows are. leaf_has are; behind = λ rows are. pair_has are }
