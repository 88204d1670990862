use Rattle.lw_docs.specs.Knockout.{best}
use Rattle.lw_docs.proofs.knockout.best_below.Goals as goal

pub returns : goal.returns
unfolding best
returns c = cc
