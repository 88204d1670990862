-- The numbers tell the phases apart.
use Rattle.lw_faults.proofs.PhaseLemmas.{one_phase, circles_first}
use Rattle.lw_faults.proofs.laws.phases.Goals as goal

pub returns : goal.returns
returns c = record { apart = one_phase; circles_first = circles_first }
