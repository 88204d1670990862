use Rattle.std.proofs.Common.{ap, sym, ◌∙◌, arith}
use Rattle.lw_gramread.specs.Spans.{across, span_of}
use Rattle.lw_gramread.proofs.Loops.{over_ends}
use Rattle.lw_gramread.proofs.reader.elements.span_of_all.Goals as goal

pub returns-in-len2-up : goal.returns-in-len2-up
returns-in-len2-up c =
    c.across.ensures ∙ ap (λ s. across s c.span_of-in-len2-up-2.result) c.span_of-in-len2-up.ensures
    ∙ ap (λ s. across (span_of c.first-item.result) s) c.span_of-in-len2-up-2.ensures
    ∙ sym (over_ends span_of c.args.elements.now c.first-item.result c.last-item.result (omega arith) c.first-item.is c.last-item.is)
