use Rattle.std.proofs.Common.{◌≡◌, ℕ, ◌<◌, None, length, vec_len, get_or}
use Rattle.lw_matching.specs.declared.lengths.order.Ranked.{Ranked}
use Rattle.lw_matching.specs.Rows.{IsEndFrom}
use Rattle.lw_matching.proofs.lengths.row.fill_row.Given as goal

abbrev pub invariant-loop-ranked : goal.invariant-loop-ranked
invariant-loop-ranked l = record {
  count : length l.row ≡ vec_len l.place.nfa.now.states;
  done : (k : ℕ) (d : Ranked) → k < l.ranked-index → IsEndFrom l.place.nfa.now l.place.text.now l.place.at l.place.starts
      (get_or l.order k d).state (get_or l.row (get_or l.order k d).state None);
}
