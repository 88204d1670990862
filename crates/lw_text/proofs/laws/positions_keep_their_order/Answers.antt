use Rattle.lw_text.proofs.Order.{IsOffset-order}
use Rattle.lw_text.proofs.laws.positions_keep_their_order.Goals as goal

pub returns : goal.returns
returns c = IsOffset-order
