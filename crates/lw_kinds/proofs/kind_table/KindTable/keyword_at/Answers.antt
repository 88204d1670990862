use Rattle.lw_kinds.proofs.TerminalNumbers.{keyword_here}
use Rattle.lw_kinds.proofs.kind_table.KindTable.keyword_at.Goals as goal

pub returns-clause-kind : goal.returns-clause-kind
returns-clause-kind c g kinds are were = keyword_here g c.args.self.now are kinds were c.args.k (c.entry.result.0.now, c.entry.result.1.now) c.entry.ensures
