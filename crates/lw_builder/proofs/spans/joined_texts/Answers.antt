use Rattle.std.proofs.Common.{◌∙◌}
use Rattle.lw_builder.proofs.SpanLemmas.{joined_step, joined_all}
use Rattle.lw_builder.proofs.spans.joined_texts.Goals as goal

pub loop-token-preserved : goal.loop-token-preserved
loop-token-preserved c =
    joined_step c.args.text.now _ c.part_at.result.now _ c.args.tokens.now c.loop-token.token-index _ c.loop-token.invariant c.part_at.ensures
    c.in_ok-push_str.ensures.bytes c.loop-token-test.true

pub returns : goal.returns
returns c = c.from_string.ensures ∙ joined_all _ _ c.args.tokens.now c.loop-token.token-index c.loop-token.invariant c.loop-token-test.false
