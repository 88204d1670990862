-- By cases on what is offered.
use Rattle.lw_places.proofs.OneList.{goes_on}
use Rattle.lw_places.proofs.offers.laws.words_go_on.Goals as goal

pub returns : goal.returns
returns c = goes_on
