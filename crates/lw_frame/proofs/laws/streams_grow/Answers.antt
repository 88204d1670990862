-- What was judged of a header part stays judged so.
use Rattle.lw_frame.proofs.Growing.{bodies_stay, fault_stays}
use Rattle.lw_frame.proofs.laws.streams_grow.Goals as goal

pub returns : goal.returns
returns c = record { bodies = bodies_stay; fault = fault_stays }
