use Rattle.lw_kinds.proofs.WorkedRow.{worked_row, not_there, no_kind}
use Rattle.lw_kinds.proofs.laws.reached_alone.Goals as goal

pub returns-clause-row : goal.returns-clause-row
returns-clause-row c = worked_row

pub returns-clause-not_there : goal.returns-clause-not_there
returns-clause-not_there c = not_there

pub returns-clause-no_kind : goal.returns-clause-no_kind
returns-clause-no_kind c = no_kind
