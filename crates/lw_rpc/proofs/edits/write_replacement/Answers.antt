use Rattle.std.proofs.Common.{codes, string_bytes}
use Rattle.json.specs.Print.{quoted}
use Rattle.lw_rpc.proofs.PushLemmas.{pushed_5}
use Rattle.lw_rpc.specs.Replies.{range_text}
use Rattle.lw_rpc.proofs.edits.write_replacement.Goals as goal

pub returns-clause-text : goal.returns-clause-text
returns-clause-text c =
    pushed_5 (string_bytes c.args.out.now) (codes "{\"newText\":") (quoted c.args.text.now) (codes ",\"range\":") (range_text c.args.start c.args.end) (codes "}")
    c.in_ok-push_str.ensures.bytes c.in_ok-write_quoted.ensures c.in_ok-push_str-2.ensures.bytes c.in_ok-write_range.ensures.text c.in_ok-push_str-3.ensures.bytes
