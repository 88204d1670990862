use Rattle.lw_places.proofs.OneWord.{one_word_typed}
use Rattle.lw_places.proofs.offers.laws.one_word.Goals as goal

pub returns : goal.returns
returns c text offset = one_word_typed text offset
