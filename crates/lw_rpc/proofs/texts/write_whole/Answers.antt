use Rattle.lw_rpc.proofs.ReadLemmas.{ReadsBack-whole}
use Rattle.lw_rpc.proofs.texts.write_whole.Goals as goal

pub returns-clause-reads : goal.returns-clause-reads
returns-clause-reads c = ReadsBack-whole c.args.number c.ranges.number.sfits
