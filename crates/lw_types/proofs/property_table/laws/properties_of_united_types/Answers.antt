-- What the interface declares, what the entry assigns on one of its ways, and that the union is no interface.
use Rattle.lw_types.proofs.PairsSeen.{base_has, any_has_none, root_has}
use Rattle.lw_types.proofs.property_table.laws.properties_of_united_types.Goals as goal

pub returns : goal.returns
returns c = record { declared = base_has; union = any_has_none; entry = λ rows are. root_has are }
