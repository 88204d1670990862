use Rattle.lw_matching.proofs.LengthLemmas.{start_is_match}
use Rattle.lw_matching.proofs.lengths.lengths.match_lengths.Goals as goal

pub returns-clause-lengths : goal.returns-clause-lengths
returns-clause-lengths c = λ pattern is.
    start_is_match pattern c.args.text.now c.args.nfa.now is c.utf8.text c.in_ok-lengths.lengths.items
    (rw c.as_bytes.ensures.value at c.in_ok-lengths.ensures)
