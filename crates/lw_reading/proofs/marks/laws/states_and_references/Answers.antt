use Rattle.lw_reading.proofs.StateTree.{begun_state, states_tree}
use Rattle.lw_reading.proofs.marks.laws.states_and_references.Goals as goal

pub returns : goal.returns
returns c = record { whole = states_tree; begun = begun_state }
