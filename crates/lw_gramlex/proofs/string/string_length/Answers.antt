use Rattle.std.proofs.Common.{◌≡◌, ◌⊎◌, ◌∷◌, drop, ap, sym, ◌∙◌, inl, inr, arith}
use Rattle.lw_gramlex.proofs.StringLemmas.{inside_end, string_none, string_some, scan_stops, scan_closes, scan_ends}
use Rattle.lw_gramlex.proofs.string.string_length.Goals as goal
use Rattle.lw_gramlex.proofs.string.string_length.Goals.{else-quote-ne39-via-then-quote-ne39+else-quote-ne34, else-quote-ne39-via-else-quote-ne39}

pub returns-then-byte-eq10 : goal.returns-then-byte-eq10
returns-then-byte-eq10 c =
    let begins : c.args.rest.now ≡ c.in_ok-quote.quote.now ∷ c.in_ok-quote.after.now = sym c.as_bytes.ensures.value ∙ c.in_ok-quote.ensures.cases.0 in
    string_none c.args.rest.now c.in_ok-quote.after.now c.in_ok-quote.quote.now begins (scan_stops c.in_ok-quote.quote.now c.inside.at c.in_ok-quote.after.now (omega arith) c.if-byte-eq10.true (c.inside.invariant ∙ ap (λ e. inside_end c.in_ok-quote.quote.now c.inside.at e (drop c.inside.at c.in_ok-quote.after.now)) c.if-escaped.true))

pub returns-then-byte-quote : goal.returns-then-byte-quote
returns-then-byte-quote c =
    let begins : c.args.rest.now ≡ c.in_ok-quote.quote.now ∷ c.in_ok-quote.after.now = sym c.as_bytes.ensures.value ∙ c.in_ok-quote.ensures.cases.0 in
    let q = c.in_ok-quote.quote.now in
    let is_quote : (q ≡ 39) ⊎ (q ≡ 34) = elim c.else-quote-ne39.branch [ else-quote-ne39-via-then-quote-ne39+else-quote-ne34 w ↦ inr w.if-quote-ne34.false | else-quote-ne39-via-else-quote-ne39 w ↦ inl w.if-quote-ne39.false ] in
    string_some c.args.rest.now c.in_ok-quote.after.now q c.inside.at begins is_quote
    (scan_closes q c.inside.at c.in_ok-quote.after.now (omega arith) c.if-byte-quote.true (c.inside.invariant ∙ ap (λ e. inside_end q c.inside.at e (drop c.inside.at c.in_ok-quote.after.now)) c.if-escaped.false))

pub returns : goal.returns
returns c =
    let begins : c.args.rest.now ≡ c.in_ok-quote.quote.now ∷ c.in_ok-quote.after.now = sym c.as_bytes.ensures.value ∙ c.in_ok-quote.ensures.cases.0 in
    string_none c.args.rest.now c.in_ok-quote.after.now c.in_ok-quote.quote.now begins (scan_ends c.in_ok-quote.quote.now c.inside.at c.in_ok-quote.after.now c.inside.escaped (omega arith) c.inside.invariant)
