use Rattle.std.proofs.Common.{false, drop, ap, sym, ◌∙◌, arith}
use Rattle.lw_gramlex.proofs.RegexLemmas.{body_end, closed_none, closed_some, scan_stops, scan_closes, scan_ends}
use Rattle.lw_gramlex.proofs.regex.body_length.Goals as goal

pub returns-then-is_line_end : goal.returns-then-is_line_end
returns-then-is_line_end c =
    closed_none c.args.body.now (scan_stops c.body.at c.args.body.now c.body.escaped c.body.in_class (omega arith) (sym c.is_line_end.ensures ∙ c.if-is_line_end.true) c.body.invariant)

pub returns-then-byte-eq47 : goal.returns-then-byte-eq47
returns-then-byte-eq47 c =
    closed_some c.args.body.now c.body.at
    (scan_closes c.body.at c.args.body.now (omega arith) (sym c.is_line_end.ensures ∙ c.if-is_line_end.false) c.if-byte-eq47.true
    (c.body.invariant ∙ ap (λ e. body_end c.body.at e c.body.in_class (drop c.body.at c.args.body.now)) c.if-escaped.false ∙ ap (λ k. body_end c.body.at false k (drop c.body.at c.args.body.now)) c.if-not-in_class.true))

pub returns : goal.returns
returns c = closed_none c.args.body.now (scan_ends c.body.at c.args.body.now c.body.escaped c.body.in_class (omega arith) c.body.invariant)
