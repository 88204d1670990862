use Rattle.std.proofs.Common.{true≢false, sym, ◌∙◌, arith}
use Rattle.lw_terminals.proofs.KeywordSteps.{first_blank, none_blank_more, none_blank}
use Rattle.lw_terminals.proofs.limits.first_blank.Goals as goal

pub returns-then-is_blank : goal.returns-then-is_blank
returns-then-is_blank c =
    let row = c.args.kinds.now in
    first_blank row c.loop-k.k (omega (arith, c.loop-k-test.true, c.keyword_count-k-end.ensures.count)) c.keyword_at.result.now c.keyword_at.ensures.text c.first_use.result
    c.first_use.ensures.place c.loop-k.invariant (c.is_blank.ensures.0 c.if-is_blank.true)

pub loop-k-preserved : goal.loop-k-preserved
loop-k-preserved c =
    none_blank_more c.args.kinds.now.keywords c.loop-k.k (omega (arith, c.loop-k-test.true, c.keyword_count-k-end.ensures.count)) c.keyword_at.result.now
    c.keyword_at.ensures.text c.loop-k.invariant
    (λ blank. true≢false (sym (c.is_blank.ensures.1 blank) ∙ c.if-is_blank.false))

pub returns : goal.returns
returns c = none_blank c.args.kinds.now.keywords c.loop-k.k (omega (arith, c.loop-k-test.false, c.keyword_count-k-end.ensures.count)) c.loop-k.invariant
