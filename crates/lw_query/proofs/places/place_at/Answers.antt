-- What the offset is inside of goes first.
use Rattle.lw_places.specs.Places.{inside}
use Rattle.lw_query.proofs.Looked.{place_behind}
use Rattle.lw_query.proofs.places.place_at.Goals as goal

pub returns-in-Some : goal.returns-in-Some
returns-in-Some c = inside c.in-Some.ensures

pub returns-in-None : goal.returns-in-None
returns-in-None c = place_behind c.args.tree.now c.args.off c.in-None.ensures c.first_place-in-None.result c.first_place-in-None.ensures
