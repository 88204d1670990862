use Rattle.std.proofs.Common.{◌∙◌}
use Rattle.lw_commands.proofs.Conversing.{on_err_of, part_of_next, one_more}
use Rattle.lw_commands.proofs.serve.write_replies.Goals as goal

pub returns-in_err-write_reply-clause-part : goal.returns-in_err-write_reply-clause-part
returns-in_err-write_reply-clause-part g c =
    on_err_of c.from_residual.result _
    (part_of_next _ _ c.args.replies.now c.replies.reply-index c.replies.invariant.written _ c.reply-item.result c.replies-test.true c.reply-item.is
    c.in_err-write_reply.ensures.part)

pub replies-preserved : goal.replies-preserved
replies-preserved g c = record {
  written = one_more _ _ c.args.replies.now c.replies.reply-index c.replies.invariant.written _ c.reply-item.result c.replies-test.true c.reply-item.is
      c.in_ok-write_reply.ensures.whole;
  count = c.in_ok-write_reply.ensures.sink ∙ c.replies.invariant.count;
}
