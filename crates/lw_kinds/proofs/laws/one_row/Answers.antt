use Rattle.lw_kinds.proofs.OneRow.{one_row}
use Rattle.lw_kinds.proofs.laws.one_row.Goals as goal

pub returns : goal.returns
returns c = one_row
