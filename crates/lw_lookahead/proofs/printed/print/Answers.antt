use Rattle.std.proofs.Common.{◌++◌, sym, ap, ◌∙◌}
use Rattle.std.specs.Option.{option_map}
use Rattle.lw_base.specs.declared.numbers.KindId.{KindId}
use Rattle.lw_grammar.specs.KindTexts.{texts_of}
use Rattle.lw_first.specs.Heads.{seen_in}
use Rattle.lw_lookahead.specs.Printed.{window_text, shown, spaced}
use Rattle.lw_lookahead.proofs.PrintSteps.{printed_spaced}
use Rattle.lw_lookahead.proofs.printed.print.Goals as goal

pub returns : goal.returns
returns c kinds of =
    let texts = texts_of kinds in
    let first = option_map (λ (kind : KindId). kind.0) c.in-Some.first.now in
    let others = seen_in c.in-Some.others.now in
    c.from_string-2.ensures ∙ c.in_ok-push_others.ensures kinds of
    ∙ ap (λ text. text ++ spaced texts others) (c.in_ok-push_seen.ensures kinds of ∙ ap (λ text. text ++ shown texts first) c.new-text.ensures.bytes)
    ∙ sym (printed_spaced texts first others) ∙ ap (λ seen. window_text texts (seen_in seen)) (sym c.in-Some.ensures.cases.0)
