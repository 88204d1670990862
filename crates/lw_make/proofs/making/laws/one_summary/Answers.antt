use Rattle.lw_make.proofs.OneSummary.{one_summary}
use Rattle.lw_make.proofs.making.laws.one_summary.Goals as goal

pub returns : goal.returns
returns c = one_summary
