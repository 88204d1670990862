use Rattle.lw_gramcheck.proofs.BadCallLemmas.{found_bad_calls}
use Rattle.lw_gramcheck.proofs.parts.bad_calls.find_bad_calls.Goals as goal

pub returns : goal.returns
returns c = found_bad_calls c.args.checker.now.g.now c.in_ok-find_in_rules.ensures c.in_ok-find_in_terminals.ensures
