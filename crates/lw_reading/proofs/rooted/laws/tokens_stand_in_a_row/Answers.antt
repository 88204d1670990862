use Rattle.lw_reading.proofs.Standing.{states_row, states_stand, none_in_nothing, not_behind, not_in_text}
use Rattle.lw_reading.proofs.rooted.laws.tokens_stand_in_a_row.Goals as goal

pub returns : goal.returns
returns c = record { row = states_row; tree = states_stand; nothing = none_in_nothing; overlap = not_behind; outside = not_in_text }
