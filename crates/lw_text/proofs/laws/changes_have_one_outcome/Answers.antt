use Rattle.lw_text.proofs.Outcomes.{Changes-only, Changes-some}
use Rattle.lw_text.proofs.laws.changes_have_one_outcome.Goals as goal

pub returns-clause-one : goal.returns-clause-one
returns-clause-one c = Changes-only

pub returns-clause-some : goal.returns-clause-some
returns-clause-some c = Changes-some
