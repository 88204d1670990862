use Rattle.std.proofs.Common.{codes, string_bytes}
use Rattle.json.specs.Print.{quoted}
use Rattle.lw_rpc.proofs.PartLemmas.{publish_reads}
use Rattle.lw_rpc.proofs.PushLemmas.{pushed_6}
use Rattle.lw_rpc.specs.Replies.{diagnostics_text, version_text}
use Rattle.lw_rpc.proofs.published.write_publish.Goals as goal

pub returns-clause-text : goal.returns-clause-text
returns-clause-text c =
    pushed_6 (string_bytes c.args.out.now)
    (codes "{\"jsonrpc\":\"2.0\",\"method\":\"textDocument/publishDiagnostics\",\"params\":{\"diagnostics\":[")
    (diagnostics_text c.args.list.now) (codes "],\"uri\":") (quoted c.args.uri.now) (version_text c.args.version.now) (codes "}}")
    c.in_ok-push_str.ensures.bytes c.in_ok-write_list.ensures.text c.in_ok-push_str-2.ensures.bytes c.in_ok-write_quoted.ensures c.in_ok-write_version.ensures.text c.in_ok-push_str-3.ensures.bytes

pub returns-clause-reads : goal.returns-clause-reads
returns-clause-reads c = publish_reads c.args.uri.now c.args.version.now c.args.list.now c.in_ok-write_version.ensures.reads c.in_ok-write_list.ensures.reads
