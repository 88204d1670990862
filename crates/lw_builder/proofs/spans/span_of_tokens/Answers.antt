use Rattle.std.proofs.Common.{sym}
use Rattle.lw_builder.proofs.SpanLemmas.{span_is}
use Rattle.lw_builder.proofs.spans.span_of_tokens.Goals as goal

pub returns-in-Some-Some : goal.returns-in-Some-Some
returns-in-Some-Some c =
    span_is c.args.tokens.now c.in-Some-Some.first.now c.in-Some-Some.last.now (sym c.in-Some-Some.ensures.value) (sym c.in-Some-Some.ensures'.value)
