use Rattle.lw_rpc.proofs.PartLemmas.{locations_read}
use Rattle.lw_rpc.proofs.locations.write_locations.Goals as goal

pub returns-clause-reads : goal.returns-clause-reads
returns-clause-reads c = locations_read c.args.list.now c.in_ok-write_list.ensures.reads
