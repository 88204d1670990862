-- One name stands below another where they are one, or where a row of the table holds the other.
use Rattle.lw_machine.proofs.Types.{tells_types}
use Rattle.lw_machine.proofs.outcomes.laws.tables_tell_subtypes.Goals as goal

pub returns : goal.returns
returns c = tells_types
