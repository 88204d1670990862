-- What is put in and what is declared is settled, and no type is both.
use Rattle.lw_types.proofs.Settled.{one_list_of_properties}
use Rattle.lw_types.proofs.property_table.laws.one_list_of_properties.Goals as goal

pub returns : goal.returns
returns c = one_list_of_properties
