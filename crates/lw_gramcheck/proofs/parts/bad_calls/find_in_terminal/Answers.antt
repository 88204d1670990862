use Rattle.lw_faults.proofs.Joining.{Finds-then}
use Rattle.lw_gramcheck.proofs.parts.bad_calls.find_in_terminal.Goals as goal

pub returns : goal.returns
returns c = Finds-then c.in_ok-find_called_rules.ensures c.in_ok-find_bad_ranges.ensures
