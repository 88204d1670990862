use Rattle.lw_rpc.proofs.PartLemmas.{offers_read}
use Rattle.lw_rpc.proofs.offers.write_offers.Goals as goal

pub returns-clause-reads : goal.returns-clause-reads
returns-clause-reads c = offers_read c.args.list.now c.in_ok-write_list.ensures.reads
