-- By induction on the derivations of patterns.
use Rattle.lw_tokens.proofs.OnePattern.{one_lexicon}
use Rattle.lw_tokens.proofs.laws.one_lexicon.Goals as goal

pub returns : goal.returns
returns c = one_lexicon
