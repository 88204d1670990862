use Rattle.std.proofs.Common.{◌<◌, ◌∷◌, [], ◌++◌, length, take, sym, ap, ◌∙◌, arith}
use Rattle.std.proofs.lemmas.List.{take_more}
use Rattle.lw_matchers.proofs.token_set.TokenSet.matchers.Goals as goal

pub returns-in_err-push-clause-kinds : goal.returns-in_err-push-clause-kinds
returns-in_err-push-clause-kinds c = rw (← c.self.view_is) c.self.invariant.0

pub loop-terminal-preserved : goal.loop-terminal-preserved
loop-terminal-preserved c =
    let items = c.deref-terminal-items.result.now in
    let i = c.loop-terminal.terminal-index in
    let below : i < length items = omega (arith, c.loop-terminal-test.true) in
    c.in_ok-push.ensures.items ∙ ap (λ l. l ++ c.in_ok-matcher.field-0 ∷ []) c.loop-terminal.invariant
    ∙ ap (λ x. take i items ++ x ∷ []) (c.in_ok-matcher.ensures ∙ c.terminal-item.is) ∙ sym (take_more items i c.terminal-item.result below)
