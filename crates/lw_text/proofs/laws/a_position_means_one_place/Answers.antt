use Rattle.lw_text.proofs.Offsets.{IsOffset-only, IsOffset-some}
use Rattle.lw_text.proofs.laws.a_position_means_one_place.Goals as goal

pub returns-clause-one : goal.returns-clause-one
returns-clause-one c = IsOffset-only

pub returns-clause-some : goal.returns-clause-some
returns-clause-some c = IsOffset-some
