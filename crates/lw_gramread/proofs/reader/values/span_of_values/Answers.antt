use Rattle.std.proofs.Common.{ap, sym, ◌∙◌, arith}
use Rattle.lw_gramread.specs.Spans.{across, span_of_value}
use Rattle.lw_gramread.proofs.Loops.{over_ends}
use Rattle.lw_gramread.proofs.reader.values.span_of_values.Goals as goal

pub returns-in-len2-up : goal.returns-in-len2-up
returns-in-len2-up c =
    c.across.ensures ∙ ap (λ s. across s c.span_of_value-in-len2-up-2.result) c.span_of_value-in-len2-up.ensures
    ∙ ap (λ s. across (span_of_value c.first-item.result) s) c.span_of_value-in-len2-up-2.ensures
    ∙ sym (over_ends span_of_value c.args.values.now c.first-item.result c.last-item.result (omega arith) c.first-item.is c.last-item.is)
