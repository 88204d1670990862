use Rattle.lw_scoping.proofs.Shadowing.{shadows, passes_over, first_of_two}
use Rattle.lw_scoping.proofs.laws.inner_symbols_shadow_outer_ones.Goals as goal

pub returns : goal.returns
returns c = record { shadows = shadows; unwanted = passes_over; first = first_of_two }
