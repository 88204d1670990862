use Rattle.std.proofs.Common.{codes, map, string_bytes}
use Rattle.std.specs.List.{join_with_byte}
use Rattle.lw_rpc.proofs.PartLemmas.{edits_read}
use Rattle.lw_rpc.proofs.PushLemmas.{pushed_3}
use Rattle.lw_rpc.specs.Replies.{file_text}
use Rattle.lw_rpc.proofs.edits.write_edits.Goals as goal

pub returns-clause-text : goal.returns-clause-text
returns-clause-text c =
    pushed_3 (string_bytes c.args.out.now) (codes "{\"changes\":{") (join_with_byte 44 (map file_text c.args.files.now)) (codes "}}")
    c.in_ok-push_str.ensures.bytes c.in_ok-write_list.ensures.text c.in_ok-push_str-2.ensures.bytes

pub returns-clause-reads : goal.returns-clause-reads
returns-clause-reads c = edits_read c.args.files.now c.requires c.in_ok-write_list.ensures.reads
