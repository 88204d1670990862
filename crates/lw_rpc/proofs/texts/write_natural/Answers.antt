use Rattle.lw_rpc.proofs.ReadLemmas.{ReadsBack-natural}
use Rattle.lw_rpc.proofs.texts.write_natural.Goals as goal

pub returns-clause-reads : goal.returns-clause-reads
returns-clause-reads c = ReadsBack-natural c.args.number c.ranges.number.fits
