use Rattle.lw_make.proofs.Lengths.{length-made_text, text_fits}
use Rattle.lw_make.proofs.laws.texts_have_their_lengths.Goals as goal

pub returns-clause-exact : goal.returns-clause-exact
returns-clause-exact c = length-made_text

pub returns-clause-fits : goal.returns-clause-fits
returns-clause-fits c = text_fits
