use Rattle.std.proofs.Common.{◌++◌, ◌∙◌, ap}
use Rattle.serde_json.specs.Read.{read}
use Rattle.lw_rpc.proofs.PartLemmas.{reply_reads}
use Rattle.lw_rpc.specs.Replies.{reply_bytes}
use Rattle.lw_rpc.proofs.writing.reply_text.Goals as goal

pub returns-clause-reads_back : goal.returns-clause-reads_back
returns-clause-reads_back c =
    let text = c.from_string.ensures ∙ c.in_ok-write_reply.ensures.text ∙ ap (λ t. t ++ reply_bytes c.args.reply.now) c.new-text.ensures.bytes in
    ap read text ∙ reply_reads c.args.reply.now c.requires.ordered c.in_ok-write_reply.ensures.reads
