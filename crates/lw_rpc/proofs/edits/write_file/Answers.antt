use Rattle.lw_rpc.proofs.PartLemmas.{file_reads}
use Rattle.lw_rpc.proofs.edits.write_file.Goals as goal

pub returns-clause-reads : goal.returns-clause-reads
returns-clause-reads c = file_reads c.args.file.now (rw c.as_slice.ensures at c.in_ok-write_list.ensures.reads)
