use Rattle.lw_docs.proofs.View.{none_held}
use Rattle.lw_docs.proofs.docs.Docs.new.Goals as goal

pub returns : goal.returns
returns c = none_held c.new.result.items c.new-4.result c.new-4.ensures.ordered c.new-4.ensures.empty
