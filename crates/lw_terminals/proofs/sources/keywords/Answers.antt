use Rattle.std.proofs.Common.{[], ◌∷◌, ◌++◌, ap, ◌∙◌, arith}
use Rattle.std.proofs.lemmas.List.{take_all}
use Rattle.lw_kinds.proofs.FirstTexts.{texts_of}
use Rattle.lw_terminals.proofs.KeywordSteps.{texts_more}
use Rattle.lw_terminals.proofs.sources.keywords.Goals as goal

pub loop-k-preserved : goal.loop-k-preserved
loop-k-preserved c =
    texts_more c.args.kinds.now.keywords c.loop-k.k (omega (arith, c.loop-k-test.true, c.keyword_count-k-end.ensures.count)) c.keyword_at.result.now
    c.keyword_at.ensures.text c.loop-k.texts.items _ c.loop-k.invariant
    (c.in_ok-push.ensures.items ∙ ap (λ text. c.loop-k.texts.items ++ text ∷ []) c.in_ok-copy.ensures)

pub returns : goal.returns
returns c =
    let words = c.args.kinds.now.keywords in
    c.loop-k.invariant ∙ ap texts_of (take_all c.loop-k.k words (omega (arith, c.loop-k-test.false, c.keyword_count-k-end.ensures.count)))
