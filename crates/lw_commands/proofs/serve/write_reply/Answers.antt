use Rattle.lw_commands.proofs.Conversing.{on_err_of, reply_written, part_of_header, part_of_text}
use Rattle.std.proofs.Common.{◌≡◌, ℕ, List, length, sym, ap, ◌∙◌}
use Rattle.lw_frame.specs.Frames.{header_part_of}
use Rattle.lw_commands.proofs.serve.write_reply.Goals as goal

-- the header part is that of the bytes that follow
header_is : (header bytes reply text : List ℕ) (size : ℕ) → header ≡ header_part_of size → bytes ≡ header → size ≡ length reply → text ≡ reply → bytes ≡ header_part_of (length text)
header_is header bytes reply text size is same counted text_is = same ∙ is ∙ ap header_part_of (counted ∙ ap length (sym text_is))

pub returns-clause-whole : goal.returns-clause-whole
returns-clause-whole g c =
    reply_written _ _ _ c.args.reply.now c.bytes-2.result.now c.bytes-3.result.now
    (header_is _ _ c.args.reply.now _ _ c.in_ok-header.ensures c.bytes-2.ensures.bytes (ap length c.bytes.ensures.bytes) c.bytes-3.ensures.bytes) c.bytes-3.ensures.bytes
    c.in_ok-write_all.ensures.whole c.in_ok-write_all-2.ensures.whole

pub returns-in_err-write_all-clause-part : goal.returns-in_err-write_all-clause-part
returns-in_err-write_all-clause-part g c =
    on_err_of c.from_residual-in_err-write_all.result _
    (part_of_header _ (g.K.Sink.written c.args.out.now) _ c.args.reply.now c.bytes-2.result.now c.bytes.result.now
    (header_is _ _ c.args.reply.now _ _ c.in_ok-header.ensures c.bytes-2.ensures.bytes (ap length c.bytes.ensures.bytes) c.bytes.ensures.bytes) c.bytes.ensures.bytes
    c.in_err-write_all.ensures.fault)

pub returns-in_err-write_all-2-clause-part : goal.returns-in_err-write_all-2-clause-part
returns-in_err-write_all-2-clause-part g c =
    on_err_of c.from_residual-in_err-write_all-2.result _
    (part_of_text _ _ _ c.args.reply.now c.bytes-2.result.now c.bytes-3.result.now
    (header_is _ _ c.args.reply.now _ _ c.in_ok-header.ensures c.bytes-2.ensures.bytes (ap length c.bytes.ensures.bytes) c.bytes-3.ensures.bytes) c.bytes-3.ensures.bytes
    c.in_ok-write_all.ensures.whole c.in_err-write_all-2.ensures.fault)
