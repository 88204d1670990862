-- At each leaf the rule's own type is current, and no leaf puts a type below another.
use Rattle.lw_types.proofs.StatesSeen.{type_numbers, property_numbers, properties_of_model, properties_of_state, only_itself}
use Rattle.lw_types.proofs.property_table.laws.properties_of_states.Goals as goal

pub returns : goal.returns
returns c = record {
  types = type_numbers;
  properties = property_numbers;
  model = λ rows are. properties_of_model are;
  state = λ rows are. properties_of_state are;
  below = only_itself;
}
