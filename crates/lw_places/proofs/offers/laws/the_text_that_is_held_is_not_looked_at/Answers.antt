use Rattle.lw_places.proofs.HeldText.{held_not_looked_at}
use Rattle.lw_places.proofs.offers.laws.the_text_that_is_held_is_not_looked_at.Goals as goal

pub returns : goal.returns
returns c g texts others address same held reads = held_not_looked_at g texts others address same held reads
