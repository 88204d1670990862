use Rattle.lw_complete.proofs.MeantFound.{found_when_meant}
use Rattle.lw_complete.proofs.laws.a_name_that_is_meant_is_found.Goals as goal

pub returns : goal.returns
returns c g of lexicon trees address front name rest tokens next types checks one_way are is_lexicon cut comes read leads meant =
    found_when_meant g types checks one_way of lexicon are is_lexicon front name rest tokens read.added cut read.cut read.some trees address next comes leads meant
