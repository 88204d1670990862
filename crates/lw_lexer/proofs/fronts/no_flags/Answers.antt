use Rattle.lw_lexer.proofs.EndLemmas.{all_off}
use Rattle.lw_lexer.proofs.fronts.no_flags.Goals as goal

pub returns : goal.returns
returns c = all_off
