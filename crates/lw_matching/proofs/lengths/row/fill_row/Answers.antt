use Rattle.std.proofs.Common.{◌≡◌, ◌<◌, None, length, get_or, set, subst, sym, ap, ◌∙◌, inl, inr, arith, get_or-set_same}
use Rattle.std.proofs.lemmas.Bool.{cases_lt}
use Rattle.std.proofs.lemmas.List.{get_or_default, length-set}
use Rattle.lw_matching.specs.declared.lengths.order.Ranked.{Ranked}
use Rattle.lw_matching.specs.Rows.{IsEndFrom}
use Rattle.lw_matching.proofs.OrderLemmas.{stands, stands_before}
use Rattle.lw_matching.proofs.RowLemmas.{row_set}
use Rattle.lw_matching.proofs.lengths.row.fill_row.Goals as goal

abbrev none : Ranked
none = record { rank = 0; state = 0 }

pub end_from-requires-clause-below : goal.end_from-requires-clause-below
end_from-requires-clause-below c = λ r below.
    let place = c.args.place.now in
    let order = c.args.order.now in
    let inside = c.loop-ranked-test.true in
    let at = stands place.nfa.now order c.requires.order r (omega (arith, below.0, place.nfa.now.ranks_len)) in
    let before = stands_before place.nfa.now order c.requires.order r at.0 c.loop-ranked.ranked-index none at.1 (at.2 none) inside below in
    subst (λ (one : Ranked). IsEndFrom place.nfa.now place.text.now place.at place.starts one.state (get_or c.loop-ranked.row one.state None)) (at.2 none)
    (c.loop-ranked.invariant.done at.0 none before)

pub loop-ranked-preserved : goal.loop-ranked-preserved
loop-ranked-preserved c =
    let place = c.args.place.now in
    let order = c.args.order.now in
    let row = c.loop-ranked.row in
    let n = c.loop-ranked.ranked-index in
    let id = (get_or order n none).state in
    let End = IsEndFrom place.nfa.now place.text.now place.at place.starts in
    let inside : id < length row = omega (arith, c.loop-ranked.invariant.count, (c.requires.order.ranked.each n none c.loop-ranked-test.true).0) in
    record {
      count = length-set row id c.end_from.result ∙ c.loop-ranked.invariant.count;
      done = λ k d below. elim (cases_lt k n) [
        | inl lt ↦ row_set End row id c.end_from.result inside c.end_from.ensures (get_or order k d).state (c.loop-ranked.invariant.done k d lt)
        | inr ge ↦ (let here : n ≡ k = omega (arith, below, ge) in
            let same : get_or order n none ≡ get_or order k d = get_or_default order n none d c.loop-ranked-test.true ∙ ap (λ m. get_or order m d) here in
            subst (λ (one : Ranked). End one.state (get_or (set row id c.end_from.result) one.state None)) same
            (subst (End id) (sym (get_or-set_same row id c.end_from.result None inside)) c.end_from.ensures))
      ];
    }

pub returns-clause-row : goal.returns-clause-row
returns-clause-row c = λ q below.
    let place = c.args.place.now in
    let order = c.args.order.now in
    let at = stands place.nfa.now order c.requires.order q below in
    subst (λ (one : Ranked). IsEndFrom place.nfa.now place.text.now place.at place.starts one.state (get_or c.loop-ranked.row one.state None)) (at.2 none)
    (c.loop-ranked.invariant.done at.0 none (omega (arith, at.1, c.loop-ranked-test.false)))
