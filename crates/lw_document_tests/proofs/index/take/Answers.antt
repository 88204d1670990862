use Rattle.std.proofs.Common.{sym, subst}
use Rattle.lw_index.specs.Lettered.{IsLettered}
use Rattle.lw_index.proofs.LetteredLemmas.{lettered_remove}
use Rattle.lw_document_tests.proofs.index.take.Goals as goal

pub returns : goal.returns
returns c = subst IsLettered (sym c.remove.ensures.after) (lettered_remove c.args.index.now c.args.number c.requires)
