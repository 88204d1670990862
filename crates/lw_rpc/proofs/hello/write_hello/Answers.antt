use Rattle.lw_rpc.proofs.PartLemmas.{hello_reads}
use Rattle.lw_rpc.proofs.hello.write_hello.Goals as goal

pub returns-clause-reads : goal.returns-clause-reads
returns-clause-reads c = hello_reads
