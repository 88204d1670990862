use Rattle.std.proofs.Common.{ap, sym, ◌∙◌, drop, length}
use Rattle.std.proofs.lemmas.Bool.{eq-eqb, false≢true}
use Rattle.std.proofs.lemmas.List.{take_rest}
use Rattle.lw_text.proofs.Reaching.{next_line_test}
use Rattle.lw_text.proofs.line.next_line.Goals as goal

pub returns-then-starts_with : goal.returns-then-starts_with
returns-then-starts_with c =
    let end = c.line_end-end.result in
    (next_line_test c.args.text.now c.args.start end _ c.starts_with.result (take_rest c.as_bytes.result.now end ∙ ap (drop end) c.as_bytes.ensures.value) c.line_end-end.ensures c.starts_with.ensures.value).0 c.if-starts_with.true

pub returns-else-starts_with : goal.returns-else-starts_with
returns-else-starts_with c =
    let end = c.line_end-end.result in
    (next_line_test c.args.text.now c.args.start end _ c.starts_with.result (take_rest c.as_bytes.result.now end ∙ ap (drop end) c.as_bytes.ensures.value) c.line_end-end.ensures c.starts_with.ensures.value).1 c.if-starts_with.false
    (λ over. false≢true (sym c.if-is_empty.false ∙ c.is_empty.ensures ∙ eq-eqb _ 0 (ap length over)))
