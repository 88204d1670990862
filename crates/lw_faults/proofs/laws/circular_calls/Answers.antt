-- What each fragment and each terminal calls is written out.
use Rattle.lw_faults.proofs.CircularCallsWorked.{fragment_itself, through_a_rule, terminal_itself, other_terminal}
use Rattle.lw_faults.proofs.laws.circular_calls.Goals as goal

pub returns : goal.returns
returns c = record { fragment_ = fragment_itself; through_a_rule = through_a_rule; terminal = terminal_itself; other_terminal = other_terminal }
