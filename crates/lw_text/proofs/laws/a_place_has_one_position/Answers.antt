use Rattle.lw_text.proofs.Positions.{IsPositionIn-only}
use Rattle.lw_text.proofs.laws.a_place_has_one_position.Goals as goal

pub returns : goal.returns
returns c = IsPositionIn-only
