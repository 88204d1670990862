use Rattle.lw_gramcheck.proofs.CircleLemmas.{found_circles}
use Rattle.lw_gramcheck.proofs.parts.circles.find_circular_calls.Goals as goal

pub returns : goal.returns
returns c = found_circles c.args.checker.now.g.now c.in_ok-find_circular_fragments.ensures c.in_ok-find_circular_terminals.ensures
