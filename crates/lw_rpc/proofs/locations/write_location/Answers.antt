use Rattle.lw_rpc.proofs.PartLemmas.{location_reads}
use Rattle.lw_rpc.proofs.locations.write_location.Goals as goal

pub returns-clause-reads : goal.returns-clause-reads
returns-clause-reads c = location_reads c.args.location.now c.in_ok-write_range.ensures.reads
