-- The places alone are the one reading.
use Rattle.std.proofs.Common.{[], None, sym, subst}
use Rattle.lw_viable.specs.Gives.{PlacesGive}
use Rattle.lw_viable.specs.Readings.{Keeps}
use Rattle.lw_viable.proofs.Starting.{first_read, places_keep}
use Rattle.lw_viable.proofs.fronts.Fronts.over.Goals as goal

pub returns : goal.returns
returns c g kinds tasks by placed =
    let reads = first_read c.new-lists.result c.put.new.self _ (None, c.args.places.now) c.new-kept.result.items c.put.new.fronts.items c.new-lists.ensures.marks c.new-lists.ensures.rests c.new-kept.ensures.items c.in_ok-put.ensures.put in
    record { by = by; keeps = subst (Keeps g kinds tasks (PlacesGive g kinds tasks c.args.places.now) []) (sym reads) (places_keep g kinds tasks c.args.places.now placed) }
