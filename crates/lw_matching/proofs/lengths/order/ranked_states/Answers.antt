use Rattle.std.proofs.Common.{◌≡◌, ℕ, ◌+◌, ◌<◌, ◌++◌, ◌∷◌, [], All, vec_len, subst, sym, refl, ap, ◌∙◌, arith}
use Rattle.std.proofs.lemmas.List.{get_or_default}
use Rattle.std.proofs.lemmas.List.Elements.{All-push}
use Rattle.lw_matching.specs.Order.{ranked, IsRanked}
use Rattle.lw_matching.proofs.OrderLemmas.{HasBelow, has_next}
use Rattle.lw_matching.proofs.lengths.order.ranked_states.Goals as goal

pub loop-state-preserved : goal.loop-state-preserved
loop-state-preserved c =
    let nfa = c.args.nfa.now in
    let n = c.loop-state.state in
    let list = c.loop-state.list.items in
    let below : n < vec_len nfa.states = omega (arith, c.loop-state-test.true, c.len-count.ensures) in
    let pushed : c.push.new.self.items ≡ list ++ ranked nfa n ∷ [] = c.in_ok-push.ensures.items
    ∙ ap (λ (r : ℕ). list ++ record { rank = r; state = n } ∷ [])
    (c.index.ensures ∙ get_or_default nfa.ranks.items n c.index.result.now 0 (omega (arith, below, nfa.ranks_len))) in
    record {
      complete = subst (HasBelow nfa (n + 1)) (sym pushed) (has_next nfa n list c.loop-state.invariant.complete);
      each = subst (All (IsRanked nfa)) (sym pushed) (All-push (IsRanked nfa) list (ranked nfa n) c.loop-state.invariant.each (below, refl));
    }
