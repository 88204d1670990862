use Rattle.std.proofs.Common.{codes, string_bytes}
use Rattle.json.specs.Print.{quoted}
use Rattle.lw_rpc.proofs.PartLemmas.{log_reads}
use Rattle.lw_rpc.proofs.PushLemmas.{pushed_3}
use Rattle.lw_rpc.proofs.writing.write_log.Goals as goal

pub returns-clause-text : goal.returns-clause-text
returns-clause-text c =
    pushed_3 (string_bytes c.args.out.now) (codes "{\"jsonrpc\":\"2.0\",\"method\":\"window/logMessage\",\"params\":{\"message\":") (quoted c.args.message.now) (codes ",\"type\":1}}")
    c.in_ok-push_str.ensures.bytes c.in_ok-write_quoted.ensures c.in_ok-push_str-2.ensures.bytes

pub returns-clause-reads : goal.returns-clause-reads
returns-clause-reads c = log_reads c.args.message.now
