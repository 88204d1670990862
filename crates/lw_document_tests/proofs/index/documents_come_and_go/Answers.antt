use Rattle.std.proofs.Common.{sym, subst}
use Rattle.lw_index.specs.Lettered.{IsLettered}
use Rattle.lw_index.proofs.LetteredLemmas.{lettered_empty}
use Rattle.lw_document_tests.proofs.index.documents_come_and_go.Goals as goal

pub put-requires-clause-lettered : goal.put-requires-clause-lettered
put-requires-clause-lettered g c = subst IsLettered (sym c.new-index.ensures) lettered_empty
