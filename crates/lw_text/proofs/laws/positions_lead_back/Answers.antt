use Rattle.lw_text.proofs.Returning.{lead_back}
use Rattle.lw_text.proofs.laws.positions_lead_back.Goals as goal

pub returns : goal.returns
returns c = lead_back
